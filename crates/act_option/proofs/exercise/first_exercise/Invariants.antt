use Rattle.std.proofs.Common.{◌≡◌, Some, take}
use Rattle.act_option.proofs.FirstExercise.{days_of}
use Rattle.act_profile.specs.Dates.{is_within, least}
use Rattle.act_profile.specs.Exercise.{exercise_of}
use Rattle.act_option.proofs.exercise.first_exercise.Given as goal

abbrev pub invariant-loop-entry : goal.invariant-loop-entry
invariant-loop-entry l = l.first ≡ least (days_of exercise_of (is_within l.status (Some l.maturity)) (take l.entry-index l.entries))

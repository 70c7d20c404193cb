use Rattle.std.proofs.Common.{Some}
use Rattle.act_profile.specs.Dates.{is_within}
use Rattle.act_profile.specs.Exercise.{exercise_of}
use Rattle.act_option.proofs.FirstExercise.{earliest_turn}
use Rattle.act_option.proofs.exercise.first_exercise.Goals as goal

pub loop-entry-preserved : goal.loop-entry-preserved
loop-entry-preserved c =
    rw (c.earlier-first.ensures, c.exercise_within.ensures)
    (earliest_turn exercise_of (is_within c.args.status (Some c.args.maturity)) c.args.entries.now c.loop-entry.entry-index c.entry-item.result c.loop-entry.first c.loop-entry-test.true c.entry-item.is c.loop-entry.invariant)

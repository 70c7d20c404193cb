use Rattle.act_profile_examples.proofs.ComputedSpecial.{exercise_on_the_status_date, settlement_moved_back, settlement_not_before_exercise, settlement_past_2299}
use Rattle.act_profile_examples.proofs.special.special_options.Goals as goal

pub returns-clause-exercise_on_the_status_date : goal.returns-clause-exercise_on_the_status_date
returns-clause-exercise_on_the_status_date c = exercise_on_the_status_date

pub returns-clause-settlement_moved_back : goal.returns-clause-settlement_moved_back
returns-clause-settlement_moved_back c = settlement_moved_back

pub returns-clause-settlement_not_before_exercise : goal.returns-clause-settlement_not_before_exercise
returns-clause-settlement_not_before_exercise c = settlement_not_before_exercise

pub returns-clause-settlement_past_2299 : goal.returns-clause-settlement_past_2299
returns-clause-settlement_past_2299 c = settlement_past_2299

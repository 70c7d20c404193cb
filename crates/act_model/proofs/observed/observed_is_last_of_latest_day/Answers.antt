use Rattle.act_model.proofs.RatePlaces.{observed_law, unobserved_law}
use Rattle.act_model.proofs.observed.observed_is_last_of_latest_day.Goals as goal

pub returns-clause-some : goal.returns-clause-some
returns-clause-some c = observed_law

pub returns-clause-none : goal.returns-clause-none
returns-clause-none c = unobserved_law

use Rattle.act_profile_examples.proofs.ComputedTables.{exposure_without_interest, exposure_by_market_value, covered_twice}
use Rattle.act_profile_examples.proofs.tables.steps_of_guarantees.Goals as goal

pub returns-clause-exposure_without_interest : goal.returns-clause-exposure_without_interest
returns-clause-exposure_without_interest c = exposure_without_interest

pub returns-clause-exposure_by_market_value : goal.returns-clause-exposure_by_market_value
returns-clause-exposure_by_market_value c = exposure_by_market_value

pub returns-clause-covered_twice : goal.returns-clause-covered_twice
returns-clause-covered_twice c = covered_twice

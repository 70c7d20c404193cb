use Rattle.act_profile_examples.proofs.ComputedTables.{across_a_leap_year, maturity_in_february, business_days_of_a_week, shifted_first, counted_first}
use Rattle.act_profile_examples.proofs.tables.counted_days.Goals as goal

pub returns-clause-across_a_leap_year : goal.returns-clause-across_a_leap_year
returns-clause-across_a_leap_year c = across_a_leap_year

pub returns-clause-maturity_in_february : goal.returns-clause-maturity_in_february
returns-clause-maturity_in_february c = maturity_in_february

pub returns-clause-business_days_of_a_week : goal.returns-clause-business_days_of_a_week
returns-clause-business_days_of_a_week c = business_days_of_a_week

pub returns-clause-shifted_first : goal.returns-clause-shifted_first
returns-clause-shifted_first c = shifted_first

pub returns-clause-counted_first : goal.returns-clause-counted_first
returns-clause-counted_first c = counted_first

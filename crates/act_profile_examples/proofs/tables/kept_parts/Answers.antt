use Rattle.act_profile_examples.proofs.ComputedTables.{cut_by_a_later_rate, cut_by_nothing, cut_of_a_shadow, cut_of_a_cap, stopped_run_is_kept, stop_on_the_cut}
use Rattle.act_profile_examples.proofs.tables.kept_parts.Goals as goal

pub returns-clause-cut_by_a_later_rate : goal.returns-clause-cut_by_a_later_rate
returns-clause-cut_by_a_later_rate c = cut_by_a_later_rate

pub returns-clause-cut_by_nothing : goal.returns-clause-cut_by_nothing
returns-clause-cut_by_nothing c = cut_by_nothing

pub returns-clause-cut_of_a_shadow : goal.returns-clause-cut_of_a_shadow
returns-clause-cut_of_a_shadow c = cut_of_a_shadow

pub returns-clause-cut_of_a_cap : goal.returns-clause-cut_of_a_cap
returns-clause-cut_of_a_cap c = cut_of_a_cap

pub returns-clause-stopped_run_is_kept : goal.returns-clause-stopped_run_is_kept
returns-clause-stopped_run_is_kept c = stopped_run_is_kept

pub returns-clause-stop_on_the_cut : goal.returns-clause-stop_on_the_cut
returns-clause-stop_on_the_cut c = stop_on_the_cut

use Rattle.act_causality.proofs.Example.{four_contracts_are_linked}
use Rattle.act_causality.proofs.what_the_law_asks_of_portfolios_is_met.Goals as goal

pub returns : goal.returns
returns c = record { four_contracts = four_contracts_are_linked }

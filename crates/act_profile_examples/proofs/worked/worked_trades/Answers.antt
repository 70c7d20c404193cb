use Rattle.act_profile_examples.proofs.Computed.{bought_call, outright_delivered, outright_settled}
use Rattle.act_profile_examples.proofs.worked.worked_trades.Goals as goal

pub returns-clause-bought_call : goal.returns-clause-bought_call
returns-clause-bought_call c = bought_call

pub returns-clause-outright_delivered : goal.returns-clause-outright_delivered
returns-clause-outright_delivered c = outright_delivered

pub returns-clause-outright_settled : goal.returns-clause-outright_settled
returns-clause-outright_settled c = outright_settled

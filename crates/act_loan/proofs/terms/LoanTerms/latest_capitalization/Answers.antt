use Rattle.std.proofs.Common.{arith}
use Rattle.act_sched.proofs.SoFar.{latest_none}
use Rattle.act_loan.proofs.terms.LoanTerms.latest_capitalization.Goals as goal

pub returns-in_default : goal.returns-in_default
returns-in_default c = grind (arith, latest_none)

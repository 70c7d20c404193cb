use Rattle.std.proofs.Common.{arith}
use Rattle.act_loan.proofs.Latest.{at_once}
use Rattle.act_loan.proofs.terms.LoanTerms.latest_payment.Goals as goal

pub returns-in-Some : goal.returns-in-Some
returns-in-Some c = grind (arith, at_once)

use Rattle.std.proofs.Common.{arith}
use Rattle.act_loan.proofs.Latest.{with_redemptions}
use Rattle.act_loan.proofs.terms.LoanTerms.latest_interest_date.Goals as goal

pub returns-in-NAM : goal.returns-in-NAM
returns-in-NAM c = grind (arith, with_redemptions)

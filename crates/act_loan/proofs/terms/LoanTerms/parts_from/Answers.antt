use Rattle.std.proofs.Common.{arith}
use Rattle.act_loan.proofs.Plans.{next_part, no_more_parts}
use Rattle.act_loan.proofs.terms.LoanTerms.parts_from.Goals as goal

pub days-preserved : goal.days-preserved
days-preserved c = grind (arith, next_part)

pub returns-clause-parts : goal.returns-clause-parts
returns-clause-parts c = grind (arith, no_more_parts)

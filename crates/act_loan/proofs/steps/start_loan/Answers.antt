use Rattle.std.proofs.Common.{refl}
use Rattle.act_loan.proofs.Contracts.{start_of_loan}
use Rattle.act_loan.proofs.steps.start_loan.Goals as goal

pub returns-in-Some : goal.returns-in-Some
returns-in-Some c = rw (start_of_loan c.args.terms.now c.args.plan.now c.args.loan.now c.requires.loan, ← c.in-Some.ensures) refl

pub returns-in-None : goal.returns-in-None
returns-in-None c = rw (start_of_loan c.args.terms.now c.args.plan.now c.args.loan.now c.requires.loan, ← c.in-None.ensures) refl

use Rattle.std.proofs.Common.{sym}
use Rattle.act_annuity.specs.Payment.{products_at}
use Rattle.act_annuity.proofs.Raising.{raised_above, raised_divisor}
use Rattle.act_annuity.proofs.annuity.product_and_divisor.Goals as goal

pub returns-in-Some-clause-value : goal.returns-in-Some-clause-value
returns-in-Some-clause-value c = sym (raised_divisor (products_at c.args.r c.args.periods.now) c.in-Some.found.0 c.in-Some.found.1 (sym c.in-Some.ensures))

pub returns-in-Some-clause-positive : goal.returns-in-Some-clause-positive
returns-in-Some-clause-positive c = raised_above (products_at c.args.r c.args.periods.now) c.in-Some.found.0 c.in-Some.found.1 (sym c.in-Some.ensures)

use Rattle.std.proofs.Common.{codes}
use Rattle.act_json.specs.Tree.{object_of}
use Rattle.act_terms.proofs.Given.{payment_above_zero}
use Rattle.act_terms.proofs.redemption.read_lam_payment.Goals as goal

pub returns-in-None-clause-above_zero : goal.returns-in-None-clause-above_zero
returns-in-None-clause-above_zero c =
    rw (c.needed_where.ensures, c.positive.ensures) (payment_above_zero c.args.maturity (codes "nextPrincipalRedemptionPayment") (object_of c.args.contract.now))

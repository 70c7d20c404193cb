use Rattle.std.proofs.Common.{◌≡◌, ◌*◌, ap₂, arith, rules}
use Rattle.act_num.proofs.Estimates.{by_fraction}
use Rattle.act_num.proofs.rounding.estimated_by_factor.Goals as goal

pub returns-then-estimate-lt-NEAR_WHOLE : goal.returns-then-estimate-lt-NEAR_WHOLE
returns-then-estimate-lt-NEAR_WHOLE c =
    let product : c.from.result * c.from-2.result ≡ c.front.result * 4951760157141521 = ap₂ (λ a b. a * b) c.from.ensures c.from-2.ensures in
    by_fraction c.args.n c.front.result _ (omega (arith, c.if-n-ge-PAST_FRACTIONS.false)) (search rules) (omega (arith, product)) (omega (arith, c.if-estimate-lt-NEAR_WHOLE.true))

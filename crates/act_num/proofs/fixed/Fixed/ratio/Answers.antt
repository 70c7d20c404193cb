use Rattle.std.proofs.Common.{◌≡◌, ℤ, pos, neg_ℤ, ◌-ℤ◌, to_z, of_z, rules, arith}
use Rattle.std.specs.Int.{w128}
use Rattle.std.proofs.lemmas.Int.{ints}
use Rattle.act_num.proofs.Products.{ratio_of_below}
use Rattle.act_num.proofs.fixed.Fixed.ratio.Goals as goal

-- what the code's `-z` gives
abbrev negated : ℤ → ℤ
negated z = to_z w128 (of_z w128 (pos 0 -ℤ to_z w128 (of_z w128 z)))

pub returns-in-Less : goal.returns-in-Less
returns-in-Less c =
    let dividend : negated c.in_ok-dividend.dividend ≡ neg_ℤ c.in_ok-dividend.dividend = omega (arith, ints, c.in_ok-dividend.ensures.in_range) in
    let divisor : negated c.b.inside.units ≡ neg_ℤ c.args.b = omega (arith, ints) in
    ratio_of_below c.args.self c.args.b c.in_ok-dividend.dividend _ _ _ (search rules) (search rules) dividend divisor c.rounded.ensures

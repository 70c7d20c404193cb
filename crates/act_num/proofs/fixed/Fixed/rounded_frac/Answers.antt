use Rattle.std.proofs.Common.{◌≡◌, ◌*◌, ◌*ℤ◌, pos, unsigned_abs, arith, rules}
use Rattle.std.proofs.lemmas.Int.{ints}
use Rattle.act_num.specs.Number.{one}
use Rattle.act_num.proofs.Products.{mul_frac_of_steps}
use Rattle.act_num.proofs.fixed.Fixed.rounded_frac.Goals as goal

pub returns : goal.returns
returns c =
    let divisor : unsigned_abs (c.args.den *ℤ pos 1000000000) ≡ unsigned_abs c.args.den * one = omega (arith, ints) in
    mul_frac_of_steps c.args.self c.args.b c.args.num (unsigned_abs c.args.den) c.in_ok-product.field-0 c.in_ok-product-2.product _ (search rules) (search rules) (rw (← divisor) (search rules))

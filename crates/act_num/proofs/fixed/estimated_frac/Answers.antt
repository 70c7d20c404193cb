use Rattle.std.proofs.Common.{◌≡◌, ◌*◌, ℤ, to_z, of_z, unsigned_abs, ap₂, ◌∙◌, arith}
use Rattle.std.specs.Int.{w64, w128}
use Rattle.std.proofs.lemmas.Int.{ints}
use Rattle.act_num.proofs.Fractions.{frac_of_one_sign, frac_of_two_signs}
use Rattle.act_num.proofs.fixed.estimated_frac.Goals as goal

-- what the code's word of `z` is
abbrev word : ℤ → ℤ
word z = to_z w64 (of_z w64 (to_z w128 (of_z w128 z)))

pub returns-then-a-b-clause-value : goal.returns-then-a-b-clause-value
returns-then-a-b-clause-value c =
    let a : word c.args.a ≡ c.args.a = omega (arith, ints) in
    let b : word c.args.b ≡ c.args.b = omega (arith, ints) in
    let m : c.in_ok-product.product ≡ unsigned_abs c.args.a * unsigned_abs c.args.b * unsigned_abs c.args.num =
    c.in_ok-product.ensures.value ∙ ap₂ (λ x y. x * y) (ap₂ (λ x y. x * y) (omega (arith, ints, c.unsigned_abs.ensures.value)) (omega (arith, ints, c.unsigned_abs-2.ensures.value))) (omega (arith, ints)) in
    frac_of_one_sign c.args.a c.args.b c.args.num c.args.den c.in_ok-product.product c.in_ok-estimated_by_ones.field-0 (omega (arith, ints)) (omega (arith, ints)) c.requires.num_in c.requires.den_above m c.in_ok-product.ensures.in_range c.in_ok-estimated_by_ones.ensures _ (rw (a, b) at c.if-a-b.true) (omega (arith, ints, c.from-nearest.ensures))

pub returns-else-a-b-clause-value : goal.returns-else-a-b-clause-value
returns-else-a-b-clause-value c =
    let a : word c.args.a ≡ c.args.a = omega (arith, ints) in
    let b : word c.args.b ≡ c.args.b = omega (arith, ints) in
    let m : c.in_ok-product.product ≡ unsigned_abs c.args.a * unsigned_abs c.args.b * unsigned_abs c.args.num =
    c.in_ok-product.ensures.value ∙ ap₂ (λ x y. x * y) (ap₂ (λ x y. x * y) (omega (arith, ints, c.unsigned_abs.ensures.value)) (omega (arith, ints, c.unsigned_abs-2.ensures.value))) (omega (arith, ints)) in
    frac_of_two_signs c.args.a c.args.b c.args.num c.args.den c.in_ok-product.product c.in_ok-estimated_by_ones.field-0 (omega (arith, ints)) (omega (arith, ints)) c.requires.num_in c.requires.den_above m c.in_ok-product.ensures.in_range c.in_ok-estimated_by_ones.ensures _ (rw (a, b) at c.if-a-b.false) (omega (arith, ints, c.from-nearest.ensures))

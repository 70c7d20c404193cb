use Rattle.std.proofs.Common.{◌≡◌, ℤ, FitsSigned, to_z, of_z, sym, ap, ◌∙◌, rules, arith}
use Rattle.std.specs.Int.{w128}
use Rattle.std.proofs.lemmas.Int.{ints}
use Rattle.act_num.specs.Number.{number_in_range}
use Rattle.act_annuity.proofs.Payments.{quotient_is}
use Rattle.act_annuity.proofs.annuity.quotient.Goals as goal

-- what the code's `z` is
abbrev kept : ℤ → ℤ
kept z = to_z w128 (of_z w128 z)

pub returns : goal.returns
returns c =
    let m = c.in_ok-checked_mul.field-0 in
    let owed : kept c.units.result ≡ c.args.owed = omega (arith, ints) in
    let product : kept c.units-2.result ≡ c.args.product = omega (arith, ints) in
    let whole = rw (owed, product) at c.in_ok-checked_mul.ensures.1 in
    let fits : FitsSigned w128 m = search rules in
    let same : kept m ≡ m = omega (arith, ints) in
    let some = ap number_in_range (sym (same ∙ whole)) ∙ sym c.from_units.ensures ∙ c.in_ok-dividend.was in
    let dividend : kept c.units-3.result ≡ c.in_ok-dividend.dividend = omega (arith, ints) in
    let divisor : kept c.args.divisor ≡ c.args.divisor = omega (arith, ints) in
    let result : kept c.rnd.result ≡ c.rnd.result = omega (arith, ints) in
    c.from_units-2.ensures
    ∙ ap number_in_range result
    ∙ quotient_is c.args.owed c.args.product c.args.divisor c.in_ok-dividend.dividend c.rnd.result some (rw (dividend, divisor) at c.rnd.ensures.value) (rw dividend at c.rnd.ensures.bound)

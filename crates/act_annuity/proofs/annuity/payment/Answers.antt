use Rattle.std.proofs.Common.{◌≡◌, ℤ, FitsSigned, to_z, of_z, sym, ◌∙◌, arith, rules}
use Rattle.std.specs.Int.{w128}
use Rattle.std.proofs.lemmas.Int.{ints}
use Rattle.act_annuity.proofs.Payments.{payment_divided, payment_none, payment_undefined, payment_whole}
use Rattle.act_annuity.proofs.annuity.payment.Goals as goal

-- what the code's `z` is
abbrev kept : ℤ → ℤ
kept z = to_z w128 (of_z w128 z)

pub returns-in_err-owed : goal.returns-in_err-owed
returns-in_err-owed c =
    c.from_residual.ensures ∙ sym (payment_none c.args.n c.args.a c.args.r c.args.periods.now (sym c.add.ensures ∙ c.in_err-owed.was))

pub returns-in_err-product : goal.returns-in_err-product
returns-in_err-product c =
    c.from_residual-in_err-product.ensures
    ∙ sym (payment_undefined c.args.n c.args.a c.args.r c.args.periods.now c.in_ok-owed.owed (sym c.add.ensures ∙ c.in_ok-owed.was) (sym c.product_and_divisor.ensures.value ∙ c.in_err-product.was))

pub returns-in_default : goal.returns-in_default
returns-in_default c =
    let found = sym c.product_and_divisor.ensures.value ∙ c.in_ok-product.was in
    sym (payment_whole c.args.n c.args.a c.args.r c.args.periods.now c.in_ok-owed.owed c.in_ok-product.divisor (sym c.add.ensures ∙ c.in_ok-owed.was) (rw c.in_default.is at found))

pub returns : goal.returns
returns c =
    let found = sym c.product_and_divisor.ensures.value ∙ c.in_ok-product.was in
    let fits : FitsSigned w128 c.in_ok-product.divisor = search rules in
    let divisor : kept c.in_ok-product.divisor ≡ c.in_ok-product.divisor = omega (arith, ints) in
    (rw divisor at c.quotient.ensures)
    ∙ sym (payment_divided c.args.n c.args.a c.args.r c.args.periods.now c.in_ok-owed.owed c.in-Some.product _ (sym c.add.ensures ∙ c.in_ok-owed.was) (rw c.in-Some.is at found))

use Rattle.std.proofs.Common.{◌≡◌, ℤ, pos, FitsSigned, to_z, of_z, sym, ◌∙◌, arith, rules}
use Rattle.std.specs.Int.{w128}
use Rattle.std.proofs.lemmas.Int.{ints}
use Rattle.act_num.specs.Factor.{factor_one}
use Rattle.act_annuity.specs.declared.annuity.Change.TheVariants.{Add}
use Rattle.act_annuity.specs.Payment.{products_at}
use Rattle.act_annuity.proofs.Passing.{found}
use Rattle.act_annuity.proofs.Payments.{no_products, not_above, nothing_left, something_left}
use Rattle.act_annuity.proofs.annuity.by_two_passes.Goals as goal

-- what the code's `z` is
abbrev kept : ℤ → ℤ
kept z = to_z w128 (of_z w128 z)

pub returns-in_err-product-clause-value : goal.returns-in_err-product-clause-value
returns-in_err-product-clause-value c =
    c.from_residual.ensures ∙ sym (no_products (products_at c.args.r c.args.periods.now) (sym c.pass.ensures ∙ c.in_err-product.was))

pub returns-then-sum-le0-clause-value : goal.returns-then-sum-le0-clause-value
returns-then-sum-le0-clause-value c =
    let sums = found Add (pos factor_one) (products_at c.args.r c.args.periods.now) _ _ (sym c.pass.ensures ∙ c.in_ok-product.was) in
    sym (not_above (products_at c.args.r c.args.periods.now) _ _ sums (omega (arith, ints)))

pub returns-in_err-pass-clause-value : goal.returns-in_err-pass-clause-value
returns-in_err-pass-clause-value c =
    let sums = found Add (pos factor_one) (products_at c.args.r c.args.periods.now) _ _ (sym c.pass.ensures ∙ c.in_ok-product.was) in
    let fits : FitsSigned w128 c.in_ok-product.sum = search rules in
    let sum : kept c.in_ok-product.sum ≡ c.in_ok-product.sum = omega (arith, ints) in
    let none = sym c.pass-2.ensures ∙ c.in_err-pass.was in
    c.from_residual-in_err-pass.ensures ∙ sym (nothing_left (products_at c.args.r c.args.periods.now) _ _ sums (rw sum at none))

pub returns-clause-value : goal.returns-clause-value
returns-clause-value c =
    let sums = found Add (pos factor_one) (products_at c.args.r c.args.periods.now) _ _ (sym c.pass.ensures ∙ c.in_ok-product.was) in
    let fits : FitsSigned w128 c.in_ok-product.sum = search rules in
    let sum : kept c.in_ok-product.sum ≡ c.in_ok-product.sum = omega (arith, ints) in
    let some = sym c.pass-2.ensures ∙ c.in_ok-pass.was in
    rw sum (sym (something_left (products_at c.args.r c.args.periods.now) _ _ sums _ _ (rw sum at some) (omega (arith, ints)) (omega (arith, ints))))

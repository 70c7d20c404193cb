use Rattle.std.proofs.Common.{◌≡◌, ℤ, FitsSigned, to_z, of_z, length, sym, ap, ◌∙◌, arith, rules}
use Rattle.std.specs.Int.{w128}
use Rattle.std.proofs.lemmas.Int.{ints}
use Rattle.std.proofs.lemmas.Iterator.Adapters.{YieldsList-from_rev_slice}
use Rattle.std.proofs.lemmas.Iterator.Consumers.{YieldsList-turn}
use Rattle.std.proofs.lemmas.List.{length_push}
use Rattle.act_annuity.proofs.Passing.{next_none, next_pass, next_some, passed_nothing, stop, turn}
use Rattle.act_annuity.proofs.annuity.pass.Goals as goal

-- what the code's `z` is
abbrev kept : ℤ → ℤ
kept z = to_z w128 (of_z w128 z)

pub loop-period-init : goal.loop-period-init
loop-period-init c = (passed_nothing c.args.change _ c.args.r, search rules)

pub returns-in_err-earlier : goal.returns-in_err-earlier
returns-in_err-earlier c =
    let at = YieldsList-turn (YieldsList-from_rev_slice c.args.periods.now cc) c.loop-period.yielded _ c.loop-period.yielded_by _ _ c.in-Some.period c.in-Some.is c.next.ensures.steps in
    let none = rw c.loop-period.invariant.1 at (sym c.product_from.ensures.value ∙ c.in_err-earlier.was) in
    let start : kept c.args.start ≡ c.args.start = omega (arith, ints) in
    let stopped = stop c.args.change (kept c.args.start) c.args.r c.args.periods.now (length c.loop-period.yielded) _ at _ _ c.loop-period.invariant.0 (ap (next_pass c.args.change _) none) in
    c.from_residual.ensures ∙ sym (rw start at stopped)

pub returns-in_err-number : goal.returns-in_err-number
returns-in_err-number c =
    let at = YieldsList-turn (YieldsList-from_rev_slice c.args.periods.now cc) c.loop-period.yielded _ c.loop-period.yielded_by _ _ c.in-Some.period c.in-Some.is c.next.ensures.steps in
    let some = rw c.loop-period.invariant.1 at (sym c.product_from.ensures.value ∙ c.in_ok-earlier.was) in
    let start : kept c.args.start ≡ c.args.start = omega (arith, ints) in
    let units : kept c.units.result ≡ c.in_ok-earlier.earlier = omega (arith, ints) in
    let none = next_none c.args.change (to_z w128 c.loop-period.number-bits) c.in_ok-earlier.earlier _ units (sym c.changed.ensures ∙ c.in_err-number.was) in
    let stopped = stop c.args.change (kept c.args.start) c.args.r c.args.periods.now (length c.loop-period.yielded) _ at _ _ c.loop-period.invariant.0 (ap (next_pass c.args.change _) some ∙ none) in
    c.from_residual-in_err-number.ensures ∙ sym (rw start at stopped)

pub loop-period-preserved : goal.loop-period-preserved
loop-period-preserved c =
    let at = YieldsList-turn (YieldsList-from_rev_slice c.args.periods.now cc) c.loop-period.yielded _ c.loop-period.yielded_by _ _ c.in-Some.period c.in-Some.is c.next.ensures.steps in
    let some = rw c.loop-period.invariant.1 at (sym c.product_from.ensures.value ∙ c.in_ok-earlier.was) in
    let units : kept c.units.result ≡ c.in_ok-earlier.earlier = omega (arith, ints) in
    let fits : FitsSigned w128 c.in_ok-number.number = search rules in
    let number : kept c.in_ok-number.number ≡ c.in_ok-number.number = omega (arith, ints) in
    let next = turn c.args.change (kept c.args.start) c.args.r c.args.periods.now (length c.loop-period.yielded) _ at _ _ c.loop-period.invariant.0 ∙ ap (next_pass c.args.change _) some in
    let value = next_some c.args.change (to_z w128 c.loop-period.number-bits) c.in_ok-earlier.earlier _ c.in_ok-number.number units (sym c.changed.ensures ∙ c.in_ok-number.was) in
    (rw (length_push, number) (next ∙ value), c.product_from.ensures.same ∙ c.loop-period.invariant.1)

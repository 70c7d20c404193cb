use Rattle.std.proofs.Common.{◌≡◌, ◌<◌, ℕ, Some, sym, ap, subst, ◌∙◌, arith, below_more}
use Rattle.std.specs.List.{slice_get}
use Rattle.std.proofs.lemmas.Option.{same_Some, slice_get-get_or, slice_get_within}
use Rattle.act_keeping.specs.Dropping.{NoneOf}
use Rattle.act_keeping.specs.declared.caller.Caller.{Caller}
use Rattle.act_keeping.proofs.dropping.least_open.Goals as goal

pub loop-caller-preserved : goal.loop-caller-preserved
loop-caller-preserved c =
    let callers = c.args.callers.now in
    let i = c.loop-caller.caller-index in
    let item = c.caller-item.result in
    let least = c.least_of-least.result in
    let here = slice_get-get_or callers i item c.loop-caller-test.true ∙ ap Some (sym c.caller-item.is) in
    let all = below_more (λ (k : ℕ). (caller : Caller) → slice_get callers k ≡ Some caller → (v : ℕ) → v < least → NoneOf caller.open_asks.items v) i
    (λ k lt caller at v below. c.loop-caller.invariant.least k caller lt at v (omega (arith, below, c.least_of-least.ensures.within)))
    (λ caller at v below. subst (λ (one : Caller). NoneOf one.open_asks.items v) (same_Some item caller (sym here ∙ at)) (c.least_of-least.ensures.least v below)) in
    record {
      within = omega (arith, c.least_of-least.ensures.within, c.loop-caller.invariant.within);
      least = λ k caller lt at. all k lt caller at;
    }

pub returns : goal.returns
returns c = (
  c.loop-caller.invariant.within,
  λ v below k caller at. c.loop-caller.invariant.least k caller (omega (arith, slice_get_within c.args.callers.now k caller at, c.loop-caller-test.false)) at v below,
)

use Rattle.std.proofs.Common.{ap, refl, sym, ◌∙◌}
use Rattle.act_profile.specs.Swap.{plain_swap_state}
use Rattle.act_swap.proofs.Contracts.{start_of_cap, start_of_plain, start_of_swaps}
use Rattle.act_swap.specs.PlainSwap.{PlainSwapTerms}
use Rattle.act_swap.proofs.calls.start.Goals as goal

pub returns-in-Some : goal.returns-in-Some
returns-in-Some c =
    let state = c.in-Some.ensures ∙ ap (λ (s : PlainSwapTerms). plain_swap_state s.common s.swap) c.new.ensures in
    rw (start_of_plain c.args.terms.now c.args.plan.now c.in-SWPPV.swap c.in-SWPPV.is, ← state) refl

pub returns-in-None : goal.returns-in-None
returns-in-None c =
    let state = c.in-None.ensures ∙ ap (λ (s : PlainSwapTerms). plain_swap_state s.common s.swap) c.new.ensures in
    rw (start_of_plain c.args.terms.now c.args.plan.now c.in-SWPPV.swap c.in-SWPPV.is, ← state) refl

pub returns-in-SWAPS : goal.returns-in-SWAPS
returns-in-SWAPS c = rw c.first_state-in-SWAPS.ensures (sym (start_of_swaps c.args.terms.now c.args.plan.now c.in-SWAPS.field-0 c.in-SWAPS.is))

pub returns-in-CAPFL : goal.returns-in-CAPFL
returns-in-CAPFL c = rw c.first_state-in-CAPFL.ensures (sym (start_of_cap c.args.terms.now c.args.plan.now c.in-CAPFL.field-0 c.in-CAPFL.is))

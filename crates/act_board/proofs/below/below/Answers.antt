use Rattle.std.proofs.Common.{◌≡◌, ℕ, ◌-◌, suc, Bool, false, ◌||◌, List, [], Ok, length, sym, ap, subst, ◌∙◌, arith, slice_index_or}
use Rattle.std.specs.List.{range_with_len}
use Rattle.std.proofs.lemmas.List.{length-replicate}
use Rattle.std.proofs.lemmas.Option.{get_or_from_slice_get}
use Rattle.act_profile.specs.Reads.{is_in}
use Rattle.act_refs.specs.Ordered.{order_of}
use Rattle.act_refs.proofs.Turning.{written_back}
use Rattle.act_history.specs.Reached.{is_wanted}
use Rattle.act_keeping.proofs.Marking.{AreMarked, marked-all, marked-more, marked-none, no-marks}
use Rattle.act_board.proofs.below.below.Goals as goal

pub loop-place-init : goal.loop-place-init
loop-place-init c =
    let order = c.order-order.result.now in
    let contracts = c.args.portfolio.now.contracts in
    let ordered : order_of contracts.children ≡ Ok order = rw c.order-order.ensures.order c.order-order.ensures.ordered in
    record {
      within = omega arith;
      marked = marked-none contracts (range_with_len c.args.first (c.args.end - c.args.first)) order ordered c.in_ok-below.below.items
          (ap length c.in_ok-below.ensures ∙ (length-replicate (length c.terms.result.now) false ∙ ap length c.terms.ensures.terms))
          (λ k. ap (λ (below : List Bool). slice_index_or below k false) c.in_ok-below.ensures ∙ no-marks (length c.terms.result.now) k);
    }

pub loop-place-preserved-then-is_wanted : goal.loop-place-preserved-then-is_wanted
loop-place-preserved-then-is_wanted c =
    let order = c.order-order.result.now in
    let asked = range_with_len c.args.first (c.args.end - c.args.first) in
    let contracts = c.args.portfolio.now.contracts in
    let place = c.loop-place.place - 1 in
    let behind : suc place ≡ c.loop-place.place = omega (arith, c.loop-place-test.true) in
    let ordered : order_of contracts.children ≡ Ok order = rw c.order-order.ensures.order c.order-order.ensures.ordered in
    let old : AreMarked contracts asked order c.loop-place.below.items (suc place) = subst (AreMarked contracts asked order c.loop-place.below.items) (sym behind) c.loop-place.invariant.marked in
    record {
      within = omega (arith, c.loop-place.invariant.within);
      marked = rw (written_back c.loop-place.below.len c.mark.new.below c.loop-place.below.items (c.mark.ensures.count ∙ ap length c.deref_mut.ensures.value) (sym c.deref_mut.ensures.len ∙ ap length c.deref_mut.ensures.value))
          (marked-more contracts asked order ordered c.loop-place.below.items c.mark.new.below place (omega (arith, c.loop-place.invariant.within, c.loop-place-test.true)) old
          (ap (λ (xs : List Bool). is_wanted asked xs (slice_index_or order place 0)) (sym c.deref.ensures.value) ∙ (sym c.is_wanted.ensures ∙ c.if-is_wanted.true)) (c.mark.ensures.count ∙ ap length c.deref_mut.ensures.value) (λ k. c.mark.ensures.marked k ∙ ap (λ (xs : List Bool). slice_index_or xs k false || is_in c.children.result.now k) c.deref_mut.ensures.value ∙ ap (λ (xs : List ℕ). slice_index_or c.loop-place.below.items k false || is_in xs k) (sym (get_or_from_slice_get contracts.children (slice_index_or order place 0) c.children.result.now [] c.children.ensures.children))));
    }

pub returns : goal.returns
returns c =
    let order = c.order-order.result.now in
    let asked = range_with_len c.args.first (c.args.end - c.args.first) in
    let contracts = c.args.portfolio.now.contracts in
    let ordered : order_of contracts.children ≡ Ok order = rw c.order-order.ensures.order c.order-order.ensures.ordered in
    let first : c.loop-place.place ≡ 0 = omega (arith, c.loop-place-test.false) in
    marked-all contracts asked order ordered c.loop-place.below.items (subst (AreMarked contracts asked order c.loop-place.below.items) first c.loop-place.invariant.marked)

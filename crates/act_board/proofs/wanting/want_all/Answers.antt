use Rattle.std.proofs.Common.{◌≡◌, ◌-◌, ◌<◌, ℕ, Bool, false, List, Ok, length, sym, ap, subst, ◌∙◌, arith, slice_index_or}
use Rattle.std.specs.List.{range_with_len}
use Rattle.std.proofs.lemmas.List.FromFn.{length-range_with_len}
use Rattle.std.proofs.lemmas.List.Sorted.{length_permutation}
use Rattle.act_model.specs.declared.terms.Terms.{Terms}
use Rattle.act_portfolio.specs.Reading.{Accepted}
use Rattle.act_refs.specs.Ordered.{order_of}
use Rattle.act_refs.proofs.Ordering.{order_of-reference}
use Rattle.act_history.specs.Reached.{is_wanted}
use Rattle.act_keeping.specs.Wanting.{IsExtended, IsPlaceOf, is_asked}
use Rattle.act_keeping.specs.declared.pair.Pair.{Pair}
use Rattle.act_keeping.proofs.Extended.{added-length, extended-next, extended-none, extended-past}
use Rattle.act_board.proofs.wanting.want_all.Goals as goal
use Rattle.act_board.proofs.wanting.want_all.Goals.{then-is_wanted, else-is_wanted}

-- the order has each contract once
order-length : (graph : List (List ℕ)) (order : List ℕ) → order_of graph ≡ Ok order → length order ≡ length graph
order-length graph order is =
    length_permutation (range_with_len 0 (length graph)) order (order_of-reference graph order is).permutation ∙ length-range_with_len 0 (length graph)

order-count : (p : Accepted) (terms : List Terms) → order_of p.contracts.children ≡ Ok p.order → length p.contracts.children ≡ length p.contracts.terms → terms ≡ p.contracts.terms → length p.order ≡ length terms
order-count p terms ordered count same = order-length p.contracts.children p.order ordered ∙ (count ∙ sym (ap length same))

pub loop-rank-init : goal.loop-rank-init
loop-rank-init c = record {
  extended = extended-none c.args.pairs.now.items c.args.version (is_asked c.args.portfolio.now.order c.args.first c.args.end c.args.below.now) c.place_of-start.result c.requires.sorted
      (subst (λ (xs : List Pair). IsPlaceOf xs c.args.version 0 c.place_of-start.result) c.deref.ensures.value c.place_of-start.ensures);
  room = omega (arith, c.requires.room);
}

pub bounds-order-rank : goal.bounds-order-rank
bounds-order-rank c = omega (arith, c.loop-rank-test.true, order-count c.args.portfolio.now c.terms-rank-end.result.now c.order-order.ensures.ordered c.order-order.ensures.count c.terms-rank-end.ensures.terms, ap length c.order-order.ensures.order)

pub want-requires-clause-room : goal.want-requires-clause-room
want-requires-clause-room c = omega (arith, c.loop-rank.invariant.room, c.loop-rank-test.true, order-count c.args.portfolio.now c.terms-rank-end.result.now c.order-order.ensures.ordered c.order-order.ensures.count c.terms-rank-end.ensures.terms)

pub loop-rank-preserved : goal.loop-rank-preserved
loop-rank-preserved c =
    let order = c.args.portfolio.now.order in
    let rank = c.loop-rank.rank in
    let asked : ℕ → Bool = is_asked order c.args.first c.args.end c.args.below.now in
    let tested : c.is_wanted.result ≡ asked rank =
    c.is_wanted.ensures ∙ ap (λ (xs : List ℕ). is_wanted (range_with_len c.args.first (c.args.end - c.args.first)) c.args.below.now (slice_index_or xs rank 0)) c.order-order.ensures.order in
    let within : rank < length order = omega (arith, c.loop-rank-test.true, order-count c.args.portfolio.now c.terms-rank-end.result.now c.order-order.ensures.ordered c.order-order.ensures.count c.terms-rank-end.ensures.terms) in
    elim c.if-is_wanted.branch [
      | then-is_wanted w ↦
          record {
            extended = rw w.pairs-is (extended-next c.args.pairs.now.items c.args.version asked c.place_of-start.result rank c.loop-rank.pairs.items w.want.new.pairs.items c.loop-rank.invariant.extended (sym tested ∙ w.if-is_wanted.true) w.want.ensures.added);
            room = rw w.pairs-is (omega (arith, c.loop-rank.invariant.room, within, w.want.ensures.room, added-length c.loop-rank.pairs.items w.want.new.pairs.items c.args.version rank w.want.ensures.added));
          }
      | else-is_wanted w ↦
          let not : asked rank ≡ false = sym tested ∙ w.if-is_wanted.false in
          record {
            extended = rw w.pairs-is (extended-past c.args.pairs.now.items c.args.version asked c.place_of-start.result rank c.loop-rank.pairs.items c.loop-rank.invariant.extended (λ so. absurd (cc)));
            room = rw w.pairs-is (omega (arith, c.loop-rank.invariant.room, within));
          }
    ]

pub returns : goal.returns
returns c =
    let all : c.loop-rank.rank ≡ length c.args.portfolio.now.order = omega (arith, c.loop-rank-test.false, c.loop-rank.auto.rank-end, order-count c.args.portfolio.now c.terms-rank-end.result.now c.order-order.ensures.ordered c.order-order.ensures.count c.terms-rank-end.ensures.terms) in
    subst (λ (k : ℕ). IsExtended c.args.pairs.now.items c.args.version (is_asked c.args.portfolio.now.order c.args.first c.args.end c.args.below.now) c.place_of-start.result k c.loop-rank.pairs.items) all c.loop-rank.invariant.extended

use Rattle.std.proofs.Common.{arith, length, map, ◌∙◌}
use Rattle.std.proofs.lemmas.List.{length-map, length-set}
use Rattle.act_cones.proofs.Orders.{order_numbered}
use Rattle.act_cones.proofs.Ranked.{all_ranked, one_ranked}
use Rattle.act_cones.proofs.places.ranks.Goals as goal

pub index_mut-requires : goal.index_mut-requires
index_mut-requires c =
    let graph = map (λ l. l.items) c.args.children.now in
    let inside = order_numbered graph c.args.order.now (length c.args.children.now) c.requires.ordered (length-map c.args.children.now (λ l. l.items)) c.loop-place.place 0 c.loop-place-test.true in
    omega (arith, c.loop-place.invariant.count)

pub loop-place-preserved : goal.loop-place-preserved
loop-place-preserved c =
    let graph = map (λ l. l.items) c.args.children.now in
    let inside = order_numbered graph c.args.order.now (length c.args.children.now) c.requires.ordered (length-map c.args.children.now (λ l. l.items)) c.loop-place.place 0 c.loop-place-test.true in
    record {
      count = length-set c.loop-place.ranks.items _ _ ∙ c.loop-place.invariant.count;
      placed = one_ranked c.args.order.now c.loop-place.ranks.items c.loop-place.place c.loop-place-test.true (rw c.loop-place.invariant.count inside) c.loop-place.invariant.placed;
    }

pub returns : goal.returns
returns c =
    let graph = map (λ l. l.items) c.args.children.now in
    record {
      count = c.loop-place.invariant.count;
      each = λ k within. all_ranked graph c.args.order.now c.loop-place.ranks.items c.loop-place.place c.requires.ordered (omega (arith, c.loop-place-test.false)) c.loop-place.invariant.placed k (omega (arith, within, length-map c.args.children.now (λ l. l.items)));
    }

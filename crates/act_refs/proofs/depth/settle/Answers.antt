use Rattle.std.proofs.Common.{◌≡◌, [], ◌∷◌, ◌++◌, sym, ap, ◌∙◌, arith}
use Rattle.act_refs.specs.Path.{child_lists}
use Rattle.act_refs.proofs.Paths.{length-child_lists}
use Rattle.act_refs.proofs.Settling.{settled-already, settled-ready, settled-unready}
use Rattle.act_refs.proofs.depth.settle.Goals as goal
use Rattle.act_refs.proofs.depth.settle.Goals.{then-is_none+then-are_settled+in_ok-push, else-is_none, else-is_none-via-then-is_none+else-are_settled, else-is_none-via-else-is_none}

pub bounds-depths-contract : goal.bounds-depths-contract
bounds-depths-contract c = omega (arith, c.contracts.invariant.count, length-child_lists c.args.children.now)

pub are_settled-requires : goal.are_settled-requires
are_settled-requires c = λ k d lt.
    omega (arith, c.children_at.ensures.exist k d lt, c.contracts.invariant.count, length-child_lists c.args.children.now)

pub bounds-depths-contract-then-are_settled : goal.bounds-depths-contract-then-are_settled
bounds-depths-contract-then-are_settled c = omega (arith, c.contracts.invariant.count, length-child_lists c.args.children.now)

pub contracts-preserved : goal.contracts-preserved
contracts-preserved c =
    let graph = child_lists c.args.children.now in
    let size = length-child_lists c.args.children.now in
    let place = c.contracts.contract in
    let before = c.contracts.invariant in
    let known = c.is_none.ensures in
    elim c.if-is_none.branch [
      | then-is_none+then-are_settled+in_ok-push w ↦
          let items : c.if-is_none.order.items ≡ c.contracts.order.items ++ place ∷ [] = ap (λ v. v.items) w.order-is ∙ (w.in_ok-push.ensures).items in
          rw (w.depths-is, items) (settled-ready graph c.args.depth place c.contracts.depths c.contracts.order.items before (grind (arith, w.if-is_none.true)) w.children_at.result.now w.children_at.ensures.children (omega arith) (sym w.are_settled.ensures ∙ w.if-are_settled.true))
      | else-is_none w ↦
          rw (w.depths-is, w.order-is) (elim w.else-is_none.branch [
            | else-is_none-via-then-is_none+else-are_settled v ↦
                settled-unready graph c.args.depth place c.contracts.depths c.contracts.order.items before (grind (arith, v.if-is_none.true)) v.children_at.result.now v.children_at.ensures.children c.requires.above_zero
                (λ k d lt. rw size (v.children_at.ensures.exist k d lt)) (sym v.are_settled.ensures ∙ v.if-are_settled.false)
            | else-is_none-via-else-is_none v ↦
                settled-already graph c.args.depth place c.contracts.depths c.contracts.order.items before (grind (arith, v.if-is_none.false))
          ])
    ]

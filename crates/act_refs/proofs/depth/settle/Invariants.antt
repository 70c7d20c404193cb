use Rattle.act_refs.specs.Path.{child_lists}
use Rattle.act_refs.specs.Settled.{AreSettled}
use Rattle.act_refs.proofs.depth.settle.Given as goal

-- the contracts below this one are settled too
abbrev pub invariant-contracts : goal.invariant-contracts
invariant-contracts l = AreSettled (child_lists l.children) l.depth l.contract l.depths l.order.items

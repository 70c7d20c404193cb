use Rattle.std.proofs.Common.{◌≡◌, length}
use Rattle.act_refs.specs.Path.{child_lists}
use Rattle.act_refs.specs.Peeled.{ArePeeled}
use Rattle.act_refs.proofs.peel.peeled_both_ways.Given as goal

abbrev pub invariant-contracts : goal.invariant-contracts
invariant-contracts l = (length l.on_no_cycle.items ≡ length l.children) × ArePeeled (child_lists l.children) l.on_no_cycle.items

use Rattle.std.proofs.Common.{◌≡◌, length}
use Rattle.act_refs.specs.Path.{child_lists}
use Rattle.act_refs.proofs.Turning.{TurnedBelow}
use Rattle.act_refs.proofs.graph.parents_of.Given as goal

-- the references of the contracts so far are turned around
abbrev pub invariant-contracts : goal.invariant-contracts
invariant-contracts l = record {
  count : length l.parents.items ≡ length l.children;
  below : TurnedBelow (child_lists l.children) (child_lists l.parents.items) l.contract;
}

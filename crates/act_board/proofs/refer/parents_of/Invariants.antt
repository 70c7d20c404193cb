use Rattle.std.proofs.Common.{◌≡◌, length}
use Rattle.act_refs.specs.Path.{child_lists}
use Rattle.act_keeping.specs.Ready.{AreParentsBelow}
use Rattle.act_board.proofs.refer.parents_of.Given as goal

-- the contracts before this one stand among the parents of their children
abbrev pub invariant-contracts : goal.invariant-contracts
invariant-contracts l = record {
  count : length l.parents.items ≡ length l.portfolio.contracts.terms;
  below : AreParentsBelow l.portfolio.contracts.children l.contract (child_lists l.parents.items);
}

use Rattle.std.proofs.Common.{◌≡◌, length}
use Rattle.std.specs.List.{All}
use Rattle.act_keeping.proofs.refer.no_lists.Given as goal

abbrev pub invariant-loop-list : goal.invariant-loop-list
invariant-loop-list l = record {
  count : length l.lists.items ≡ l._list;
  empty : All (λ list. length list.items ≡ 0) l.lists.items;
}

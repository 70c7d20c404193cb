use Rattle.std.proofs.Common.{◌≡◌, [], length}
use Rattle.std.specs.List.{All}
use Rattle.act_cut.proofs.changes.no_lows.Given as goal

abbrev pub invariant-loop-list : goal.invariant-loop-list
invariant-loop-list l = record {
  count : length l.lists.items ≡ l._list;
  none : All (λ lows. lows.items ≡ []) l.lists.items;
}

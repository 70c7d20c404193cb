use Rattle.std.proofs.Common.{◌≡◌, ◌+◌, ◌≤◌, length, take, vec_capacity}
use Rattle.act_keeping.specs.Ready.{AreFree, AreSettled, blocked}
use Rattle.act_board.proofs.ready.settle.Given as goal

-- those before this one are counted
abbrev pub invariant-loop-parent : goal.invariant-loop-parent
invariant-loop-parent l = record {
  count : length l.ready.lacking.items ≡ length l.pairs;
  free : AreFree l.pairs l.ready.lacking.items l.ready.places.items;
  settled : AreSettled l.portfolio.order (take l.parent-index l.parents) l.version l.pairs l.fn.ready.lacking.items l.ready.lacking.items;
  room : length l.ready.places.items + blocked l.ready.lacking.items ≤ vec_capacity l.ready.places;
}

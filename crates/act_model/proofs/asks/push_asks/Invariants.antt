use Rattle.std.proofs.Common.{◌≡◌, ◌+◌, ◌≤◌, ◌++◌, drop}
use Rattle.act_model.proofs.AsksInTurn.{asks_from}
use Rattle.act_model.proofs.asks.push_asks.Given as goal

abbrev pub invariant-items : goal.invariant-items
invariant-items l = record {
  asks : l.asks.items ++ asks_from l.caller l.number l.version (drop l.item-index l.items) ≡ l.initial.asks.items ++ asks_from l.caller 1 0 l.items;
  number : l.number ≤ l.item-index + 1;
  version : l.version ≤ l.item-index;
}

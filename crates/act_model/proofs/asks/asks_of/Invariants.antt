use Rattle.std.proofs.Common.{◌≡◌, ◌-◌, ◌++◌}
use Rattle.std.specs.List.{flat_map, range_with_len}
use Rattle.act_model.specs.Asks.{asks_of, caller_asks}
use Rattle.act_model.proofs.asks.asks_of.Given as goal

abbrev pub invariant-callers : goal.invariant-callers
invariant-callers l = l.asks.items ++ flat_map (caller_asks l.items) (range_with_len l.caller (17 - l.caller)) ≡ asks_of l.items

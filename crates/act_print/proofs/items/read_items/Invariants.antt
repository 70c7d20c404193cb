use Rattle.std.proofs.Common.{◌≡◌, ◌-◌}
use Rattle.act_print.specs.Reading.{items_at}
use Rattle.act_print.proofs.Turns.{with_front}
use Rattle.act_print.proofs.items.read_items.Given as goal

abbrev pub invariant-items : goal.invariant-items
invariant-items l = with_front l.items.items (items_at l.names (l.count - l.counter) l.reader) ≡ items_at l.names l.count l.fn.reader

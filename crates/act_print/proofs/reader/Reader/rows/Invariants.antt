use Rattle.std.proofs.Common.{◌≡◌, length}
use Rattle.act_print.specs.Reading.{rows_at}
use Rattle.act_print.proofs.Turns.{with_rows}
use Rattle.act_print.proofs.reader.Reader.rows.Given as goal

abbrev pub invariant-rows : goal.invariant-rows
invariant-rows l = with_rows l.rows.items (rows_at l.names l.self) ≡ rows_at l.names l.fn.self

abbrev pub decreases-rows : goal.decreases-rows
decreases-rows l = length l.self

use Rattle.std.proofs.Common.{◌≡◌, drop}
use Rattle.std.specs.List.{flat_map}
use Rattle.act_engine.proofs.Texts.{Left}
use Rattle.act_text.specs.Lines.{row_text}
use Rattle.act_transcript.proofs.rows.write_new_rows.Given as goal

-- the lines of the rows from this one on are still to be written
abbrev pub invariant-places : goal.invariant-places
invariant-places g l = record {
  text : Left (flat_map (row_text l.names) l.rows) (flat_map (row_text l.names) (drop l.place l.rows)) (g.K.Sink.page l.fn.out) (g.K.Sink.page l.out);
  names : l.printer.names ≡ l.names;
}

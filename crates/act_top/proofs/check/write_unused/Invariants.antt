use Rattle.std.proofs.Common.{drop, map, string_bytes}
use Rattle.std.specs.List.{flat_map}
use Rattle.act_top.specs.Check.{unused_line}
use Rattle.act_engine.proofs.Texts.{Left}
use Rattle.act_top.proofs.check.write_unused.Given as goal

-- the lines of the names from this one on are still to be written
abbrev pub invariant-loop-name : goal.invariant-loop-name
invariant-loop-name g l = record {
  text : Left (flat_map unused_line (map string_bytes l.names)) (flat_map unused_line (map string_bytes (drop l.name-index l.names))) (g.K.Sink.page l.fn.out) (g.K.Sink.page l.out);
}

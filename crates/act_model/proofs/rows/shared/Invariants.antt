use Rattle.std.proofs.Common.{◌≡◌, map, take}
use Rattle.std.specs.Arc.{arc_value}
use Rattle.act_model.proofs.rows.shared.Given as goal

abbrev pub invariant-chunks : goal.invariant-chunks
invariant-chunks l = map arc_value l.same.items ≡ map arc_value (take l.chunk-index l.chunks)

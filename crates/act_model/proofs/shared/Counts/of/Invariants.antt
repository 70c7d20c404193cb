use Rattle.std.proofs.Common.{take}
use Rattle.std.specs.List.{All}
use Rattle.act_model.specs.Chunk.{FitsIn, IsAtMost}
use Rattle.act_model.specs.declared.shared.Counts.{Counts}
use Rattle.act_model.proofs.shared.Counts.of.Given as goal

-- they are enough for the rows so far, and no more than is enough for all
abbrev pub invariant-loop-slim : goal.invariant-loop-slim
invariant-loop-slim l = record {
  fit : All (FitsIn l.counts) (take l.slim-index l.slims);
  least : (counts : Counts) → All (FitsIn counts) l.slims → IsAtMost l.counts counts;
}

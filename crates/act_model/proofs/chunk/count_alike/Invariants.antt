use Rattle.std.proofs.Common.{◌≤◌, map, take}
use Rattle.act_model.specs.Chunk.{full_row}
use Rattle.act_model.specs.Run.{HaveSameCells}
use Rattle.act_model.proofs.chunk.count_alike.Given as goal

-- the rows before this one are printed alike
abbrev pub invariant-loop-place : goal.invariant-loop-place
invariant-loop-place l = record {
  from : l.from ≤ l.place;
  alike : HaveSameCells (map (full_row l.shared) (take l.place l.one)) (map (full_row l.other_shared) (take l.place l.other));
}

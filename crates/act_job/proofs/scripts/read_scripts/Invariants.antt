use Rattle.std.proofs.Common.{◌≡◌, drop, length, map, string_bytes}
use Rattle.act_job.specs.Scripts.{AreScriptsOf, no_scripts}
use Rattle.act_job.proofs.Going.{GoesOn}
use Rattle.act_job.proofs.scripts.read_scripts.Given as goal

-- the scripts of the names before this one were read
abbrev pub invariant-loop-name : goal.invariant-loop-name
invariant-loop-name g l = record {
  lines : AreScriptsOf l.portfolio l.scripts;
  count : length l.scripts.lists ≡ l.name-index;
  goes : GoesOn l.portfolio (no_scripts l.portfolio) (map string_bytes l.names) (g.F.Files.world l.fn.files) l.scripts (drop l.name-index (map string_bytes l.names)) (g.F.Files.world l.files);
}

use Rattle.std.proofs.Common.{◌≡◌, ◌++◌, ◌+◌, drop}
use Rattle.act_audit.specs.Journal.{one_script}
use Rattle.act_audit.proofs.Scripts.{script_from}
use Rattle.act_audit.proofs.journal.one_script.Given as goal

-- the lines of the items so far, and of those that are left
abbrev pub invariant-loop-place : goal.invariant-loop-place
invariant-loop-place l = l.lines.items ++ script_from (l.place + 2) (drop l.place l.items) ≡ one_script l.items

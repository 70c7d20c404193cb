use Rattle.std.proofs.Common.{◌≡◌, ◌+◌, drop}
use Rattle.std.specs.List.{count_by, sum_by}
use Rattle.act_script.specs.Asks.{line_lists}
use Rattle.act_job.specs.Weight.{is_event}
use Rattle.act_job.proofs.weight.all_events.Given as goal

-- the events of the scripts before this one
abbrev pub invariant-loop-script : goal.invariant-loop-script
invariant-loop-script l = l.events + sum_by (count_by is_event) (line_lists (drop l.script-index l.scripts)) ≡ sum_by (count_by is_event) (line_lists l.scripts)

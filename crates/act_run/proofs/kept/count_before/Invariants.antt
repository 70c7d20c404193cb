use Rattle.std.proofs.Common.{◌-◌, ◌<◌, ◌≤◌}
use Rattle.act_run.proofs.FirstRows.{AllBefore, NoneBehind}
use Rattle.act_run.proofs.kept.count_before.Given as goal

-- the day is found between two places
abbrev pub invariant-rows : goal.invariant-rows
invariant-rows l = record {
  order : l.from ≤ l.to;
  from : l.from ≤ l.look;
  to : l.from < l.to → l.look < l.to;
  first : AllBefore l.day l.rows l.from;
  none : NoneBehind l.day l.rows l.to;
}

abbrev pub decreases-rows : goal.decreases-rows
decreases-rows l = l.to - l.from

use Rattle.std.proofs.Common.{◌-◌, ◌≤◌, take}
use Rattle.act_model.specs.Run.{HaveSameCells}
use Rattle.act_model.proofs.rows.Rows.count_alike.Given as goal

-- the rows so far are printed alike
abbrev pub invariant-loop-alike : goal.invariant-loop-alike
invariant-loop-alike l = record {
  from : l.from ≤ l.alike;
  within : l.alike ≤ l.limit;
  alike : HaveSameCells (take l.alike l.self) (take l.alike l.other);
}

abbrev pub decreases-loop-alike : goal.decreases-loop-alike
decreases-loop-alike l = l.limit - l.alike

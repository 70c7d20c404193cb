use Rattle.std.proofs.Common.{◌≡◌, ◌≤◌, length, take}
use Rattle.act_credit.specs.Amounts.{last_state}
use Rattle.act_credit.proofs.exposures.last_state.Given as goal

abbrev pub invariant-rows : goal.invariant-rows
invariant-rows l = record {
  within : l.left ≤ length l.rows;
  last : last_state l.rows l.day ≡ last_state (take l.left l.rows) l.day;
}

abbrev pub decreases-rows : goal.decreases-rows
decreases-rows l = l.left

use Rattle.std.proofs.Common.{◌≤◌}
use Rattle.act_swap.specs.Netting.{earlier_rows}
use Rattle.act_swap.proofs.netting.first_from.Given as goal

-- the rows before the place are before the day
abbrev pub invariant-rows : goal.invariant-rows
invariant-rows l = l.place ≤ earlier_rows l.day l.run

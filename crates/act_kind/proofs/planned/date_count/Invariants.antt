use Rattle.std.proofs.Common.{◌≤◌}
use Rattle.act_kind.proofs.planned.date_count.Given as goal

abbrev pub invariant-types : goal.invariant-types
invariant-types l = l.count ≤ 4096

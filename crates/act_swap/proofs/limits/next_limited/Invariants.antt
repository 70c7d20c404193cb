use Rattle.std.proofs.Common.{◌≡◌}
use Rattle.act_swap.specs.Limits.{limited_from}
use Rattle.act_swap.proofs.limits.next_limited.Given as goal

-- none of the rows so far is within the limits
abbrev pub invariant-rows : goal.invariant-rows
invariant-rows l = limited_from l.status_date l.capfl.maturity_date l.from l.run ≡ limited_from l.status_date l.capfl.maturity_date l.place l.run

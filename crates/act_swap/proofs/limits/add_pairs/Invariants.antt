use Rattle.act_swap.proofs.Pairs.{HasPaired}
use Rattle.act_swap.proofs.limits.add_pairs.Given as goal

abbrev pub invariant-rows : goal.invariant-rows
invariant-rows l = HasPaired l.status_date l.capfl.maturity_date l.underlying l.shadow l.initial.events.items l.events.items l.place l.from

use Rattle.act_swap.proofs.Walks.{HasAdded, alone}
use Rattle.act_swap.specs.Netting.{is_taken}
use Rattle.act_swap.proofs.netting.add_apart.Given as goal

abbrev pub invariant-rows : goal.invariant-rows
invariant-rows l = HasAdded (is_taken l.status_date) (alone l.leg) l.run.rows l.initial.events.items l.events.items l.place

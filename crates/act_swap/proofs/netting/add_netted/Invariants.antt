use Rattle.act_swap.proofs.Walks.{HasAdded}
use Rattle.act_swap.specs.Netting.{AreBefore, events_beside, is_taken}
use Rattle.act_swap.proofs.netting.add_netted.Given as goal

-- the events of the rows so far, and where the rows of the last one's day begin
abbrev pub invariant-rows : goal.invariant-rows
invariant-rows l =
    HasAdded (is_taken l.status_date) (events_beside l.side l.leg l.status_date l.run l.other) l.run.rows l.initial.events.items l.events.items l.place
    × AreBefore l.run l.other l.place l.before

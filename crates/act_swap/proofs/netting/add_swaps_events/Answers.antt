use Rattle.std.proofs.Common.{map}
use Rattle.std.proofs.lemmas.Result.{IfOk-weaker}
use Rattle.std.specs.Arc.{arc_value}
use Rattle.act_swap.proofs.Legs.{all_netted, order_of}
use Rattle.act_swap.proofs.netting.add_swaps_events.Goals as goal

pub add_netted-requires-clause-order : goal.add_netted-requires-clause-order
add_netted-requires-clause-order c = rw c.of-first_run.ensures (order_of (map arc_value c.args.children.now) c.first_leg-first.result c.requires)

pub add_netted-requires-clause-other_order : goal.add_netted-requires-clause-other_order
add_netted-requires-clause-other_order c = rw c.of-second_run.ensures (order_of (map arc_value c.args.children.now) c.second_leg-second.result c.requires)

pub add_netted-requires-in-S-clause-order : goal.add_netted-requires-in-S-clause-order
add_netted-requires-in-S-clause-order c = rw c.of-second_run.ensures (order_of (map arc_value c.args.children.now) c.second_leg-second.result c.requires)

pub add_netted-requires-in-S-clause-other_order : goal.add_netted-requires-in-S-clause-other_order
add_netted-requires-in-S-clause-other_order c = rw c.of-first_run.ensures (order_of (map arc_value c.args.children.now) c.first_leg-first.result c.requires)

pub returns-in_ok-add_netted-in-S : goal.returns-in_ok-add_netted-in-S
returns-in_ok-add_netted-in-S c =
    let runs = map arc_value c.args.children.now in
    let first = rw (c.of-first_run.ensures, c.of-second_run.ensures, c.first_leg-first.ensures, c.second_leg-second.ensures) at c.in_ok-add_netted-in-S.ensures in
    IfOk-weaker c.add_netted-in-S.result _ _
    (λ x second. all_netted c.args.common.now c.args.swaps.now runs c.args.events.now.items c.add_netted.new.events.items c.add_netted-in-S.new.events.items c.in-S.is first
    (rw (c.of-first_run.ensures, c.of-second_run.ensures, c.first_leg-first.ensures, c.second_leg-second.ensures) at second))
    c.add_netted-in-S.ensures

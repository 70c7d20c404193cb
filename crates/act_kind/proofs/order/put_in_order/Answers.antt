use Rattle.std.proofs.Common.{◌≡◌, rules}
use Rattle.std.proofs.lemmas.List.Sorted.{answers_always}
use Rattle.act_kind.proofs.InOrder.{only_in_order, precedes_is_order}
use Rattle.act_profile.specs.Order.{precedes}
use Rattle.std.specs.Ordering.{is_lt}
use Rattle.act_kind.proofs.order.put_in_order.Goals as goal

pub returns-in-Ok-clause-in_order : goal.returns-in-Ok-clause-in_order
returns-in-Ok-clause-in_order c =
    let compares = answers_always _ (λ a r. is_lt r ≡ precedes a.0.now a.1.0.now) _ (λ f a r q k. search rules) in
    only_in_order c.args.events.now.items _ (c.in-Ok.ensures.sorted precedes precedes_is_order compares) (c.in-Ok.ensures.stable precedes precedes_is_order compares)

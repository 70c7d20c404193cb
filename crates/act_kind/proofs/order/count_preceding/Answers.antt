use Rattle.std.proofs.Common.{◌≡◌, ◌<◌, false, get_or, length, Some, rules, sym, ap, subst, ◌∙◌, arith}
use Rattle.std.proofs.lemmas.List.Sorted.{IsPartitionPoint-from_clause}
use Rattle.std.proofs.lemmas.Option.{slice_get-get_or}
use Rattle.std.specs.List.{AllPairs}
use Rattle.act_profile.specs.Order.{precedes}
use Rattle.act_kind.proofs.InOrder.{in_order-sorted}
use Rattle.act_kind.proofs.PlannedEnd.{parted_end}
use Rattle.act_kind.proofs.order.count_preceding.Goals as goal

pub returns-clause-before : goal.returns-clause-before
returns-clause-before c =
    let events = c.args.events.now in
    let end = c.args.end.now in
    let k = c.partition_point.result in
    let order = subst (AllPairs (λ earlier later. precedes later earlier ≡ false)) c.requires (in_order-sorted events) in
    let point = IsPartitionPoint-from_clause (λ e. precedes e end) events k c.partition_point.ensures.partitioned (parted_end events end order) (λ a r q k. search rules) in
    λ i d lt. point.0 i d (omega arith) lt

pub returns-then-precedes-clause-before : goal.returns-then-precedes-clause-before
returns-then-precedes-clause-before c =
    let events = c.args.events.now in
    let end = c.args.end.now in
    let place = c.in-Some.last_but_one in
    let order = subst (AllPairs (λ earlier later. precedes later earlier ≡ false)) c.requires (in_order-sorted events) in
    let within : place < length events = omega (arith, c.in-Some.ensures) in
    let seen = c.index-events-last_but_one.result in
    let is = c.index-events-last_but_one.is in
    λ i d lt.
    let same : Some (get_or events place d) ≡ Some (get_or events place seen) = sym (slice_get-get_or events place d within) ∙ slice_get-get_or events place seen within in
    let it : get_or events place d ≡ seen = cc in
    parted_end events end order i place d (omega (arith, lt)) within (ap (λ e. precedes e end) it ∙ sym c.precedes.ensures ∙ c.if-precedes.true)

use Rattle.std.proofs.Common.{rules, ◌≡◌, ◌-◌, List, length, true, false, take, drop, sym, subst, ap, ◌∙◌}
use Rattle.std.proofs.lemmas.List.{take_rest}
use Rattle.std.proofs.lemmas.List.Sorted.{IsPartitionPoint-from_clause}
use Rattle.std.specs.List.Sorted.{IsPartitionPoint, IsPartitionedBy}
use Rattle.act_model.specs.declared.observed.Obs.{Obs}
use Rattle.act_model.specs.Observed.{is_event_of}
use Rattle.act_book.specs.Order.{is_before}
use Rattle.act_book.proofs.Ordered.{events_at, parted_rest, parted_start}
use Rattle.act_book.proofs.run.events_in_order.Goals as goal

pub returns : goal.returns
returns c =
    let contract = c.args.contract in
    let sorted = c.args.sorted.now in
    let start = c.partition_point-start.result in
    let end = c.partition_point-end.result in
    let point = IsPartitionPoint-from_clause (is_before contract) sorted start c.partition_point-start.ensures.partitioned (parted_start contract sorted c.requires) (λ a r q k. search rules) in
    let rest : take (length sorted - start) (drop start sorted) ≡ drop start sorted = take_rest sorted start in
    let found = IsPartitionPoint-from_clause (is_event_of contract) (take (length sorted - start) (drop start sorted)) end c.partition_point-end.ensures.partitioned (subst (IsPartitionedBy (is_event_of contract)) (sym rest) (parted_rest contract sorted c.requires start point)) (λ a r q k. search rules) in
    let events = events_at contract sorted c.requires start point end (subst (λ (xs : List Obs). IsPartitionPoint (λ y. is_event_of contract y ≡ true) (λ y. is_event_of contract y ≡ false) xs end) rest found) in
    ap (take end) rest ∙ sym events

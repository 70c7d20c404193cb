use Rattle.std.proofs.Common.{rules, sym, ◌∙◌}
use Rattle.std.proofs.lemmas.List.Sorted.{IsPartitionPoint-from_clause}
use Rattle.act_book.proofs.SortedRates.{is_until, latest_found, latest_missing, parted_until}
use Rattle.act_book.proofs.run.latest_in_order.Goals as goal

pub returns-in-Some : goal.returns-in-Some
returns-in-Some c =
    let code = c.args.code in
    let until = c.args.until in
    let sorted = c.args.sorted.now in
    let end = c.partition_point-end.result in
    let point = IsPartitionPoint-from_clause (is_until code until) sorted end c.partition_point-end.ensures.partitioned (parted_until code until sorted c.requires) (λ a r q k. search rules) in
    c.rate_until.ensures ∙ sym (latest_found code until sorted c.requires end point c.partition_point-end.ensures.bound c.in-Some.entry.now c.in-Some.ensures.value)

pub returns-in-None : goal.returns-in-None
returns-in-None c =
    let code = c.args.code in
    let until = c.args.until in
    let sorted = c.args.sorted.now in
    let end = c.partition_point-end.result in
    let point = IsPartitionPoint-from_clause (is_until code until) sorted end c.partition_point-end.ensures.partitioned (parted_until code until sorted c.requires) (λ a r q k. search rules) in
    sym (latest_missing code until sorted c.requires end point c.partition_point-end.ensures.bound c.in-None.ensures.value)

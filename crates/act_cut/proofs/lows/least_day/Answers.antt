use Rattle.std.proofs.Common.{rules, ◌≤◌, ◌<◌, nat_lt, length, refl, arith}
use Rattle.std.proofs.lemmas.Bool.Decides.{nat_tests}
use Rattle.std.proofs.lemmas.List.Sorted.{IsPartitionPoint-from_clause}
use Rattle.std.proofs.lemmas.Option.{slice_get_read}
use Rattle.act_cut.proofs.Rising.{least_first, least_past, parted_place, told_first}
use Rattle.act_cut.proofs.lows.least_day.Goals as goal

pub returns-in-Some-clause-least : goal.returns-in-Some-clause-least
returns-in-Some-clause-least c = λ test entries are within.
    let lows = c.args.lows.now in
    let first = c.partition_point-first.result in
    let from = c.args.from in
    let low = c.in-Some.low.now in
    let point = IsPartitionPoint-from_clause (λ low. nat_lt low.place from) lows first c.partition_point-first.ensures.partitioned (parted_place test entries lows are from) (λ a r q k. search rules) in
    let below : first < length lows = let is = c.in-Some.ensures.lookup.0 in grind (arith, nat_tests) in
    least_first test entries lows are from c.args.to first point low (slice_get_read lows (length lows) first low refl below c.in-Some.ensures.lookup.1) c.if-low-to.true

pub returns-in-Some-2-clause-told : goal.returns-in-Some-2-clause-told
returns-in-Some-2-clause-told c = λ test entries are whole.
    let lows = c.args.lows.now in
    let first = c.partition_point-first.result in
    let low = c.in-Some.low.now in
    let point = IsPartitionPoint-from_clause (λ low. nat_lt low.place c.args.from) lows first c.partition_point-first.ensures.partitioned (parted_place test entries lows are c.args.from) (λ a r q k. search rules) in
    let below : first < length lows = let is = c.in-Some.ensures.lookup.0 in grind (arith, nat_tests) in
    absurd (omega (arith, whole, c.if-low-to.false, told_first test entries lows are c.args.from c.args.to first point low (slice_get_read lows (length lows) first low refl below c.in-Some.ensures.lookup.1)))

pub returns-in-None-clause-least : goal.returns-in-None-clause-least
returns-in-None-clause-least c = λ test entries are within.
    let lows = c.args.lows.now in
    let first = c.partition_point-first.result in
    let from = c.args.from in
    let point = IsPartitionPoint-from_clause (λ low. nat_lt low.place from) lows first c.partition_point-first.ensures.partitioned (parted_place test entries lows are from) (λ a r q k. search rules) in
    let past : length lows ≤ first = let is = c.in-None.ensures.lookup.0 in grind (arith, nat_tests) in
    least_past test entries lows are from c.args.to first point past

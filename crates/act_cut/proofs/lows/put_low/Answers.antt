use Rattle.std.proofs.Common.{rules, ◌≡◌, ◌≤◌, ◌∷◌, ◌++◌, [], int_lt, length, take, sym, ap, subst, ◌∙◌, arith}
use Rattle.std.proofs.lemmas.List.{take_all, take_more_set}
use Rattle.std.proofs.lemmas.List.Sorted.{IsPartitionPoint-from_clause}
use Rattle.act_cut.specs.Lows.{AreLows}
use Rattle.act_cut.specs.declared.lows.Low.{Low}
use Rattle.act_cut.proofs.Rising.{lows-put, parted_day}
use Rattle.act_cut.proofs.lows.put_low.Goals as goal

pub returns-then-kept-len-clause-put : goal.returns-then-kept-len-clause-put
returns-then-kept-len-clause-put c = λ test entries entry are place passes day_is.
    let lows = c.args.lows.now.items in
    let kept = c.partition_point-kept.result in
    let day = c.args.day in
    let value = c.deref.ensures.value in
    let point = IsPartitionPoint-from_clause (λ low. int_lt low.day day) lows kept (rw value at c.partition_point-kept.ensures.partitioned) (parted_day test entries lows are day) (λ a r q k. search rules) in
    let low : Low = record { place = c.args.place; day = day } in
    let new : c.truncate.new.self.items ≡ take kept lows ++ low ∷ [] = c.truncate.ensures.items ∙ take_more_set lows kept low (omega (arith, c.if-kept-len.true, c.len.ensures, c.args.lows.now.ok.0)) in
    subst (AreLows test (entries ++ entry ∷ [])) (sym (new ∙ ap (λ n. take kept lows ++ record { place = n; day = day } ∷ []) place))
    (lows-put test entries lows are kept day (omega (arith, c.if-kept-len.true, c.len.ensures, c.args.lows.now.ok.0)) point entry passes day_is)

pub returns-clause-put : goal.returns-clause-put
returns-clause-put c = λ test entries entry are place passes day_is.
    let lows = c.args.lows.now.items in
    let kept = c.partition_point-kept.result in
    let day = c.args.day in
    let value = c.deref.ensures.value in
    let within : kept ≤ length lows = omega (arith, c.partition_point-kept.ensures.bound, ap length value) in
    let point = IsPartitionPoint-from_clause (λ low. int_lt low.day day) lows kept (rw value at c.partition_point-kept.ensures.partitioned) (parted_day test entries lows are day) (λ a r q k. search rules) in
    let low : Low = record { place = c.args.place; day = day } in
    let whole : take kept lows ≡ lows = take_all kept lows (omega (arith, c.if-kept-len.false, c.len.ensures, c.args.lows.now.ok.0)) in
    let new : c.push.new.self.items ≡ take kept lows ++ low ∷ [] = c.in_ok-push.ensures.items ∙ ap (λ front. front ++ low ∷ []) (sym whole) in
    subst (AreLows test (entries ++ entry ∷ [])) (sym (new ∙ ap (λ n. take kept lows ++ record { place = n; day = day } ∷ []) place))
    (lows-put test entries lows are kept day within point entry passes day_is)

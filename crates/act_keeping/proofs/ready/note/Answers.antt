use Rattle.std.proofs.Common.{◌≡◌, ◌-◌, ◌≤◌, ℕ, true, false, get_or, Some, sym, ap, ◌∙◌, arith}
use Rattle.std.specs.List.{slice_get}
use Rattle.std.proofs.lemmas.Option.{get_or_from_slice_get, slice_get-get_or, slice_get_within}
use Rattle.act_keeping.specs.Keeping.{HasAt, is_waiting}
use Rattle.act_keeping.specs.declared.pair.Pair.{Pair}
use Rattle.act_keeping.proofs.Freed.{lowered-free, noted-lowered, noted-none, of-one}
use Rattle.act_keeping.proofs.ready.note.Goals as goal

pub lower-requires-clause-waits : goal.lower-requires-clause-waits
lower-requires-clause-waits c =
    let place = c.in-Some.place in
    let found : HasAt c.args.pairs.now c.args.version c.args.rank place = c.in-Some.ensures in
    let waits : is_waiting found.0.progress ≡ true = ap (λ (p : Pair). is_waiting p.progress) (sym (get_or_from_slice_get c.args.pairs.now place found.0 c.index-pairs-place.result found.1)) ∙ (sym c.is_waiting.ensures ∙ c.if-is_waiting.true) in
    let n : ℕ = get_or c.args.ready.now.lacking.items place 0 in
    let at : slice_get c.args.ready.now.lacking.items place ≡ Some n = slice_get-get_or c.args.ready.now.lacking.items place 0 (omega (arith, c.requires.count, slice_get_within c.args.pairs.now place found.0 found.1)) in
    let some : 1 ≤ n = omega (arith, c.requires.lacks place n found.0 found.1 at, of-one c.args.version c.args.rank found.0 found.2 found.3 waits) in
    (n - 1, at ∙ ap Some (omega (arith, some)))

pub returns-then-is_waiting-clause-free : goal.returns-then-is_waiting-clause-free
returns-then-is_waiting-clause-free c =
    let place = c.in-Some.place in
    let found : HasAt c.args.pairs.now c.args.version c.args.rank place = c.in-Some.ensures in
    let waits : is_waiting found.0.progress ≡ true = ap (λ (p : Pair). is_waiting p.progress) (sym (get_or_from_slice_get c.args.pairs.now place found.0 c.index-pairs-place.result found.1)) ∙ (sym c.is_waiting.ensures ∙ c.if-is_waiting.true) in
    lowered-free place c.args.ready.now.lacking.items c.args.ready.now.places.items c.lower.new.ready.lacking.items c.lower.new.ready.places.items c.lower.ensures.lowered c.args.pairs.now found.0 found.1 waits c.requires.free

pub returns-then-is_waiting-clause-noted : goal.returns-then-is_waiting-clause-noted
returns-then-is_waiting-clause-noted c =
    let place = c.in-Some.place in
    let found : HasAt c.args.pairs.now c.args.version c.args.rank place = c.in-Some.ensures in
    let waits : is_waiting found.0.progress ≡ true = ap (λ (p : Pair). is_waiting p.progress) (sym (get_or_from_slice_get c.args.pairs.now place found.0 c.index-pairs-place.result found.1)) ∙ (sym c.is_waiting.ensures ∙ c.if-is_waiting.true) in
    noted-lowered c.args.pairs.now c.requires.sorted c.args.version c.args.rank place found c.args.ready.now.lacking.items c.args.ready.now.places.items c.lower.new.ready.lacking.items c.lower.new.ready.places.items waits c.lower.ensures.lowered

pub returns-else-is_waiting-clause-noted : goal.returns-else-is_waiting-clause-noted
returns-else-is_waiting-clause-noted c =
    let place = c.in-Some.place in
    let found : HasAt c.args.pairs.now c.args.version c.args.rank place = c.in-Some.ensures in
    let waits : is_waiting found.0.progress ≡ false = ap (λ (p : Pair). is_waiting p.progress) (sym (get_or_from_slice_get c.args.pairs.now place found.0 c.index-pairs-place.result found.1)) ∙ (sym c.is_waiting.ensures ∙ c.if-is_waiting.false) in
    noted-none c.args.pairs.now c.requires.sorted c.args.version c.args.rank place found c.args.ready.now.lacking.items waits

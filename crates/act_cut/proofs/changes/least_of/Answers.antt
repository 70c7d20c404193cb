use Rattle.std.proofs.Common.{◌≡◌, ◌<◌, ℕ, length, get_or, Some, refl, sym, ap, subst, ◌∙◌, arith, take}
use Rattle.std.proofs.lemmas.Bool.Decides.{nat_tests}
use Rattle.std.proofs.lemmas.List.{take_all}
use Rattle.std.proofs.lemmas.Option.{slice_get_read}
use Rattle.std.specs.List.{list_any, slice_get}
use Rattle.act_cut.specs.Cut.{lesser}
use Rattle.act_cut.specs.Lows.{AreLows, least_by}
use Rattle.act_cut.proofs.Listed.{least_numbered, least_unnumbered}
use Rattle.act_cut.proofs.changes.least_of.Goals as goal

pub loop-number-init : goal.loop-number-init
loop-number-init c = λ test entries are within. sym (least_unnumbered test entries c.args.from c.args.to)

pub returns-in_err-least_day-clause-told : goal.returns-in_err-least_day-clause-told
returns-in_err-least_day-clause-told c = λ test entries are whole numbered.
    let lists = c.args.lists.now in
    let n : ℕ = get_or c.args.numbers.now c.loop-number.number-index 0 in
    let lows = c.in_ok-lows.lows.now in
    let within : n < length lists = numbered c.loop-number.number-index 0 c.loop-number-test.true in
    let at : slice_get lists n ≡ Some lows = slice_get_read lists (length lists) n lows refl within c.in_ok-lows.ensures.lookup.1 in
    absurd (let told = c.in_err-least_day.ensures.told (test n) entries (subst (AreLows (test n) entries) (sym c.deref.ensures.value) (are n lows at)) whole in cc)

pub loop-number-preserved : goal.loop-number-preserved
loop-number-preserved c = λ test entries are within.
    let lists = c.args.lists.now in
    let numbers = c.args.numbers.now in
    let i = c.loop-number.number-index in
    let n : ℕ = get_or numbers i 0 in
    let lows = c.in_ok-lows.lows.now in
    let from = c.args.from in
    let to = c.args.to in
    let there : n < length lists = let is = c.in_ok-lows.ensures.lookup.0 in grind (arith, nat_tests) in
    let at : slice_get lists n ≡ Some lows = slice_get_read lists (length lists) n lows refl there c.in_ok-lows.ensures.lookup.1 in
    let next = c.in_ok-least_day.ensures.least (test n) entries (subst (AreLows (test n) entries) (sym c.deref.ensures.value) (are n lows at)) within in
    c.lesser-least.ensures
    ∙ ap (λ found. lesser found c.in_ok-least_day.field-0) (c.loop-number.invariant test entries are within)
    ∙ ap (lesser (least_by (λ entry. list_any (λ m. test m entry) (take i numbers)) entries from to)) next
    ∙ sym (least_numbered test entries from to numbers i c.loop-number-test.true)

pub returns-clause-least : goal.returns-clause-least
returns-clause-least c = λ test entries are within.
    let numbers = c.args.numbers.now in
    let i = c.loop-number.number-index in
    c.loop-number.invariant test entries are within
    ∙ ap (λ ns. least_by (λ entry. list_any (λ n. test n entry) ns) entries c.args.from c.args.to) (take_all i numbers (omega (arith, c.loop-number-test.false)))

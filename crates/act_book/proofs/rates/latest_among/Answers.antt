use Rattle.std.proofs.Common.{◌≡◌, ◌+◌, [], take, drop, Some, None, refl, sym, ap, ◌∙◌}
use Rattle.std.proofs.lemmas.List.{take_more, take_rest}
use Rattle.act_model.specs.Latest.{later}
use Rattle.act_model.specs.Observed.{rate_until}
use Rattle.act_book.specs.Rates.{latest_rate}
use Rattle.act_book.proofs.LatestRate.{latest_behind, latest_push, rate_first, rate_none, walked}
use Rattle.act_book.proofs.rates.latest_among.Goals as goal
use Rattle.act_book.proofs.rates.latest_among.Goals.{in-Rate+else-of-code, in_default}

pub loop-place-init : goal.loop-place-init
loop-place-init c = walked c.args.code c.args.until []

pub returns-then-of-code : goal.returns-then-of-code
returns-then-of-code c =
    let code = c.args.code in
    let until = c.args.until in
    let entries = c.args.entries.now in
    let i = c.loop-place.place in
    let entry = c.index-entries-place.result in
    let test = rw c.le.ensures at c.if-of-code.true in
    let first : rate_until code until entry ≡ Some (c.in-Rate.day, c.in-Rate.value) = rate_first code until entry c.in-Rate.of c.in-Rate.day c.in-Rate.value c.in-Rate.is test in
    c.latest_from.ensures
    ∙ ap (λ rest. later (Some (c.in-Rate.day, c.in-Rate.value)) (latest_rate rest code until)) (take_rest entries (i + 1))
    ∙ ap (λ found. later found (latest_rate (drop (i + 1) entries) code until)) (sym first)
    ∙ sym (latest_behind code until entries i entry c.loop-place-test.true c.index-entries-place.is c.loop-place.invariant)

pub loop-place-preserved : goal.loop-place-preserved
loop-place-preserved c =
    let code = c.args.code in
    let until = c.args.until in
    let entries = c.args.entries.now in
    let i = c.loop-place.place in
    let entry = c.index-entries-place.result in
    let none : rate_until code until entry ≡ None =
    elim c.match-entry.branch [
      | in-Rate+else-of-code w ↦ let test = rw w.le.ensures at w.if-of-code.false in rate_none code until entry w.in-Rate.of w.in-Rate.day w.in-Rate.value w.in-Rate.is test
      | in_default w ↦ rw w.in_default.is refl
    ] in
    rw (take_more entries i entry c.loop-place-test.true, ← c.index-entries-place.is, latest_push code until (take i entries) entry, c.loop-place.invariant, none) refl

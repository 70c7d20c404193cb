use Rattle.std.proofs.Common.{◌≡◌, [], take, Some, refl, sym, ap, ◌∙◌}
use Rattle.std.proofs.lemmas.List.{take_all, take_more}
use Rattle.act_model.specs.Latest.{later}
use Rattle.act_model.specs.Observed.{rate_until}
use Rattle.act_book.specs.Rates.{latest_rate}
use Rattle.act_book.proofs.LatestRate.{latest_push, later_assoc, rate_left, rate_taken, walked}
use Rattle.act_book.proofs.rates.latest_from.Goals as goal
use Rattle.act_book.proofs.rates.latest_from.Goals.{in-Rate+then-of-code, in-Rate+else-of-code, in_default}

pub loop-entry-init : goal.loop-entry-init
loop-entry-init c = ap (later (Some c.args.first)) (sym (walked c.args.code c.args.until []))

pub loop-entry-preserved : goal.loop-entry-preserved
loop-entry-preserved c =
    let code = c.args.code in
    let until = c.args.until in
    let entries = c.args.entries.now in
    let i = c.loop-entry.entry-index in
    let entry = c.entry-item.result in
    let step : Some (c.match-entry.last, c.match-entry.value_of_last) ≡ later (Some (c.loop-entry.last, c.loop-entry.value_of_last)) (rate_until code until entry) =
    elim c.match-entry.branch [
      | in-Rate+then-of-code w ↦
          let test = rw (w.le.ensures, w.le-in-Rate.ensures) at w.if-of-code.true in
          rw (w.last-is, w.value_of_last-is) (sym (rate_taken code until entry w.in-Rate.of w.in-Rate.day w.in-Rate.value w.in-Rate.is c.loop-entry.last c.loop-entry.value_of_last test))
      | in-Rate+else-of-code w ↦
          let test = rw (w.le.ensures, w.le-in-Rate.ensures) at w.if-of-code.false in
          rw (w.last-is, w.value_of_last-is) (sym (rate_left code until entry w.in-Rate.of w.in-Rate.day w.in-Rate.value w.in-Rate.is c.loop-entry.last c.loop-entry.value_of_last test))
      | in_default w ↦ rw (w.last-is, w.value_of_last-is, w.in_default.is) refl
    ] in
    rw (take_more entries i entry c.loop-entry-test.true, ← c.entry-item.is, latest_push code until (take i entries) entry, ← later_assoc code until (Some c.args.first) (latest_rate (take i entries) code until) (rate_until code until entry), ← c.loop-entry.invariant) step

pub returns : goal.returns
returns c =
    c.loop-entry.invariant ∙ ap (λ entries. later (Some c.args.first) (latest_rate entries c.args.code c.args.until)) (take_all c.loop-entry.entry-index c.args.entries.now c.loop-entry-test.false)

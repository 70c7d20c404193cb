use Rattle.std.proofs.Common.{◌≡◌, pos, to_z, of_z, w64, sym, ◌∙◌, arith}
use Rattle.std.proofs.lemmas.Int.{ints}
use Rattle.jiff_core.specs.Date.{epoch_day}
use Rattle.act_date.specs.Civil.{civil_of}
use Rattle.act_date.specs.Cycle.{IsAnchor, months_later}
use Rattle.act_date.proofs.MonthSpans.{later-in_range, months_past}
use Rattle.act_date.proofs.cycle.Anchor.add_months.Goals as goal

pub returns-then-count-gt-MOST_MONTHS : goal.returns-then-count-gt-MOST_MONTHS
returns-then-count-gt-MOST_MONTHS c =
    let anchor : IsAnchor c.args.self.now c.self.inside.months c.self.inside.day_of_month = rw c.self.view_is at c.self.invariant in
    sym (months_past c.args.self.now c.args.count anchor.date c.if-count-gt-MOST_MONTHS.true)

pub returns : goal.returns
returns c =
    let anchor : IsAnchor c.args.self.now c.self.inside.months c.self.inside.day_of_month = rw c.self.view_is at c.self.invariant in
    let date = civil_of c.args.self.now in
    let parts = c.constrain-later.ensures in
    let y = parts.year in
    let m = parts.month in
    let few = c.if-count-gt-MOST_MONTHS.false in
    let year : c.constrain-later.result.year ≡ pos (months_later date c.args.count).year = omega (arith, ints, y, anchor.months_are, anchor.date, few) in
    let month : c.constrain-later.result.month ≡ (months_later date c.args.count).month = omega (arith, ints, m, anchor.months_are, anchor.date, few) in
    let day = rw (← y, ← m, anchor.day_is) at parts.day in
    let number : to_z w64 (of_z w64 c.from.result) ≡ epoch_day c.constrain-later.result = omega (arith, ints, c.from.ensures, c.to_unix_epoch_day.type_inv, c.to_unix_epoch_day.ensures.value) in
    (rw number at c.from_number.ensures) ∙ later-in_range c.args.self.now c.constrain-later.result c.args.count anchor.date few year month day

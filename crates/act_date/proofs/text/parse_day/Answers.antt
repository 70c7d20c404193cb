use Rattle.std.proofs.Common.{sym, ◌∙◌}
use Rattle.act_date.specs.Text.{has_time_form, is_midnight}
use Rattle.act_date.proofs.DateTexts.{some_if, none_if, no_time, no_date, other_time, at_midnight}
use Rattle.act_date.proofs.text.parse_day.Goals as goal

pub returns-in_default : goal.returns-in_default
returns-in_default c =
    let text = c.args.text.now in
    no_time text (none_if (has_time_form text) (is_midnight text) c.in_default.ensures)

pub returns-in_default-written_date : goal.returns-in_default-written_date
returns-in_default-written_date c =
    let text = c.args.text.now in
    let time = some_if (has_time_form text) c.in-Some.midnight (is_midnight text) c.in-Some.ensures in
    no_date text time.0 c.in_default-written_date.ensures

pub returns-then-not-midnight : goal.returns-then-not-midnight
returns-then-not-midnight c =
    let text = c.args.text.now in
    let time = some_if (has_time_form text) c.in-Some.midnight (is_midnight text) c.in-Some.ensures in
    other_time text time.0 c.in-Some-written_date.ensures.0 (sym time.1 ∙ c.if-not-midnight.true)

pub returns : goal.returns
returns c =
    let text = c.args.text.now in
    let time = some_if (has_time_form text) c.in-Some.midnight (is_midnight text) c.in-Some.ensures in
    rw (c.ok_or.ensures.value, c.from_date.ensures) (at_midnight text c.in-Some-written_date.date time.0 c.in-Some-written_date.ensures.0 (sym time.1 ∙ c.if-not-midnight.false) c.in-Some-written_date.ensures.1)

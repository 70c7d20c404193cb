use Rattle.std.proofs.Common.{sym, ◌∙◌}
use Rattle.act_swap.proofs.Partners.{begins_first, begins_later, begins_day, days_differ}
use Rattle.act_swap.proofs.netting.starts_of.Goals as goal

pub returns-in_default-clause-from : goal.returns-in_default-clause-from
returns-in_default-clause-from c =
    begins_first c.args.run.now.rows c.args.place c.args.row.now c.requires.row (rw c.in_default.is at c.requires.before)

pub first_from-requires-2 : goal.first_from-requires-2
first_from-requires-2 c =
    let known = rw c.in-Some.is at c.requires.before in
    let later = begins_later c.args.run.now.rows c.args.other.now c.args.place c.args.row.now known.1.0 c.requires.order c.requires.row known.0 known.1.1 in
    rw (known.3, ← known.1.2) later

pub returns-clause-from : goal.returns-clause-from
returns-clause-from c =
    let known = rw c.in-Some.is at c.requires.before in
    let differ = days_differ known.1.0.day c.args.row.now.day c.in-Some.before.day known.1.2 (sym c.eq.ensures ∙ c.if-eq.false) in
    begins_day c.args.run.now.rows c.args.place c.args.row.now known.1.0 c.requires.order c.requires.row known.0 known.1.1 differ

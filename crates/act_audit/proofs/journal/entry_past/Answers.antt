use Rattle.std.proofs.Common.{◌∙◌, sym, ap, arith}
use Rattle.act_audit.proofs.EntriesPast.{none-past, past-here}
use Rattle.act_audit.proofs.journal.entry_past.Goals as goal
use Rattle.act_model.specs.Journal.{is_append}

pub returns-then-entries-eq-MOST_ENTRIES-clause-past : goal.returns-then-entries-eq-MOST_ENTRIES-clause-past
returns-then-entries-eq-MOST_ENTRIES-clause-past c =
    past-here c.args.items.now c.loop-place.place c.index-items-place.result c.loop-place-test.true c.index-items-place.is
    (sym c.loop-place.invariant.counted ∙ c.if-entries-eq-MOST_ENTRIES.true) (ap is_append c.in-Append.is)

pub returns-clause-past : goal.returns-clause-past
returns-clause-past c = none-past c.args.items.now c.loop-place.place c.loop-place-test.false (omega (arith, c.loop-place.invariant.counted, c.loop-place.invariant.room))

use Rattle.std.proofs.Common.{◌+◌, ◌-◌, ◌++◌, length, drop, get_or, slice_get, sym, ap, subst, ◌∙◌, arith}
use Rattle.std.proofs.lemmas.List.{append_assoc, drop_all}
use Rattle.std.specs.Arc.{arc_value}
use Rattle.act_book.specs.Entries.{AreEntries}
use Rattle.act_book.specs.Order.{event_of}
use Rattle.act_book.specs.Runs.{entries_of}
use Rattle.act_model.proofs.Lists.{get_back, get_front}
use Rattle.act_book.proofs.RunLists.{entries_rest, entry_is}
use Rattle.act_book.proofs.snapshot.SeenObserved.entry.Goals as goal

pub returns-then-left-entries-clause-place : goal.returns-then-left-entries-clause-place
returns-then-left-entries-clause-place c =
    let place = c.args.place in
    let runs = c.self.inside.runs.items in
    let rest = c.self.inside.rest.items in
    let i = c.loop-run.run-index in
    let run = c.run-item.result in
    let left = c.loop-run.left in
    let same = c.entries-entries.ensures ∙ c.deref.ensures in
    c.entry_at.ensures ∙ ap (λ entries. slice_get entries left) same
    ∙ sym (get_front (arc_value run) (entries_of (drop (i + 1) runs) ++ rest) left (event_of 0) (omega (arith, ap length same)))
    ∙ ap (λ entries. slice_get entries left) (sym (append_assoc (arc_value run) (entries_of (drop (i + 1) runs)) rest) ∙ ap (λ entries. entries ++ rest) (sym (entries_rest runs i run (omega (arith, ap length c.deref-run-items.ensures.value)) (c.run-item.is ∙ ap (λ runs. get_or runs i run) c.deref-run-items.ensures.value))))
    ∙ c.loop-run.invariant
    ∙ ap (λ entries. slice_get entries place) c.self.view_is

pub returns-then-left-entries-clause-entry : goal.returns-then-left-entries-clause-entry
returns-then-left-entries-clause-entry c =
    entry_is c.args.self.now c.args.place c.entry_at.result (returns-then-left-entries-clause-place c) (subst AreEntries c.self.view_is c.self.invariant.0)

pub loop-run-preserved : goal.loop-run-preserved
loop-run-preserved c =
    let runs = c.self.inside.runs.items in
    let rest = c.self.inside.rest.items in
    let i = c.loop-run.run-index in
    let run = c.run-item.result in
    let left = c.loop-run.left in
    let same = c.entries-entries.ensures ∙ c.deref.ensures in
    let more = entries_of (drop (i + 1) runs) ++ rest in
    ap (λ entries. slice_get (entries_of (drop (i + 1) runs) ++ rest) (left - length entries)) same
    ∙ sym (get_back (arc_value run) (entries_of (drop (i + 1) runs) ++ rest) left (event_of 0) (omega (arith, ap length same)))
    ∙ ap (λ entries. slice_get entries left) (sym (append_assoc (arc_value run) (entries_of (drop (i + 1) runs)) rest) ∙ ap (λ entries. entries ++ rest) (sym (entries_rest runs i run (omega (arith, ap length c.deref-run-items.ensures.value)) (c.run-item.is ∙ ap (λ runs. get_or runs i run) c.deref-run-items.ensures.value))))
    ∙ c.loop-run.invariant

pub returns-clause-place : goal.returns-clause-place
returns-clause-place c =
    let place = c.args.place in
    let runs = c.self.inside.runs.items in
    let rest = c.self.inside.rest.items in
    let left = c.loop-run.left in
    c.entry_at-2.ensures ∙ ap (λ entries. slice_get entries left) c.deref-2.ensures.value
    ∙ ap (λ runs. slice_get (entries_of runs ++ rest) left) (sym (drop_all c.loop-run.run-index runs (omega (arith, ap length c.deref-run-items.ensures.value))))
    ∙ c.loop-run.invariant
    ∙ ap (λ entries. slice_get entries place) c.self.view_is

pub returns-clause-entry : goal.returns-clause-entry
returns-clause-entry c =
    entry_is c.args.self.now c.args.place c.entry_at-2.result (returns-clause-place c) (subst AreEntries c.self.view_is c.self.invariant.0)

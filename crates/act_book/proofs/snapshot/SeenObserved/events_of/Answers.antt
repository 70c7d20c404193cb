use Rattle.std.proofs.Common.{◌≡◌, ◌++◌, true, length, sym, ap, subst, ◌∙◌, arith}
use Rattle.std.proofs.lemmas.List.{take_all}
use Rattle.std.proofs.lemmas.List.Elements.{All-filter, filter-append}
use Rattle.act_model.specs.Observed.{is_entry, is_event_of, observed_events}
use Rattle.act_book.specs.Entries.{AreEntries}
use Rattle.act_book.specs.Runs.{entries_of}
use Rattle.act_book.proofs.snapshot.SeenObserved.events_of.Goals as goal

pub returns-clause-events : goal.returns-clause-events
returns-clause-events c =
    let contract = c.args.contract in
    let runs = c.self.inside.runs.items in
    let rest = c.self.inside.rest.items in
    c.in_ok-push_events-2.ensures
    ∙ ap (λ events. events ++ observed_events c.deref-2.result.now contract) (c.loop-run.invariant ∙ ap (λ runs. observed_events (entries_of runs) contract) (take_all c.loop-run.run-index runs (omega (arith, ap length c.deref-run-items.ensures.value))))
    ∙ ap (λ entries. observed_events (entries_of runs) contract ++ observed_events entries contract) c.deref-2.ensures.value
    ∙ sym (filter-append (is_event_of contract) (entries_of runs) rest)
    ∙ ap (λ entries. observed_events entries contract) c.self.view_is

pub returns-clause-entries : goal.returns-clause-entries
returns-clause-entries c =
    subst AreEntries (sym (returns-clause-events c)) (All-filter (is_event_of c.args.contract) (λ entry. is_entry entry ≡ true) c.args.self.now (subst AreEntries c.self.view_is c.self.invariant.0))

use Rattle.std.proofs.Common.{◌∷◌, ◌++◌, [], sym, ap, subst, ◌∙◌}
use Rattle.std.proofs.lemmas.List.{with_items_is}
use Rattle.std.proofs.lemmas.Result.{IfErr-weaker, IfOk-weaker}
use Rattle.act_profile.specs.Reads.{day_of_entry}
use Rattle.act_cut.specs.Lows.{AreListed, is_event_of, is_rate_of}
use Rattle.act_cut.proofs.Listed.{listed-quiet}
use Rattle.act_cut.proofs.changes.Changes.add.Goals as goal

pub returns-in-Rate-clause-added : goal.returns-in-Rate-clause-added
returns-in-Rate-clause-added c = IfOk-weaker c.add_day.result _ _ (λ _ added entries are place.
    let entry = c.args.entry.now in
    let written = with_items_is c.args.self.now.rates c.add_day.new.lists (c.add_day.ensures.count ∙ c.deref_mut.ensures.len) in
    record {
      rates = subst (AreListed is_rate_of (entries ++ entry ∷ [])) (sym written) (added is_rate_of entries entry (subst (AreListed is_rate_of entries) (sym c.deref_mut.ensures.value) are.rates) place (λ n. ap (is_rate_of n) c.in-Rate.is) (sym (ap day_of_entry c.in-Rate.is)));
      events = listed-quiet is_event_of entries c.args.self.now.events.items are.events entry (λ n. ap (is_event_of n) c.in-Rate.is);
    }) c.add_day.ensures.added

pub returns-in-Rate-clause-unchanged : goal.returns-in-Rate-clause-unchanged
returns-in-Rate-clause-unchanged c = IfErr-weaker c.add_day.result _ _ (λ _ same entries are.
    let written = with_items_is c.args.self.now.rates c.add_day.new.lists (c.add_day.ensures.count ∙ c.deref_mut.ensures.len) in
    record {
      rates = subst (AreListed is_rate_of entries) (sym written) (same is_rate_of entries (subst (AreListed is_rate_of entries) (sym c.deref_mut.ensures.value) are.rates));
      events = are.events;
    }) c.add_day.ensures.unchanged

pub returns-in-Event-clause-added : goal.returns-in-Event-clause-added
returns-in-Event-clause-added c = IfOk-weaker c.add_day-in-Event.result _ _ (λ _ added entries are place.
    let entry = c.args.entry.now in
    let written = with_items_is c.args.self.now.events c.add_day-in-Event.new.lists (c.add_day-in-Event.ensures.count ∙ c.deref_mut-in-Event.ensures.len) in
    record {
      rates = listed-quiet is_rate_of entries c.args.self.now.rates.items are.rates entry (λ n. ap (is_rate_of n) c.in-Event.is);
      events = subst (AreListed is_event_of (entries ++ entry ∷ [])) (sym written) (added is_event_of entries entry (subst (AreListed is_event_of entries) (sym c.deref_mut-in-Event.ensures.value) are.events) place (λ n. ap (is_event_of n) c.in-Event.is) (sym (ap day_of_entry c.in-Event.is)));
    }) c.add_day-in-Event.ensures.added

pub returns-in-Event-clause-unchanged : goal.returns-in-Event-clause-unchanged
returns-in-Event-clause-unchanged c = IfErr-weaker c.add_day-in-Event.result _ _ (λ _ same entries are.
    let written = with_items_is c.args.self.now.events c.add_day-in-Event.new.lists (c.add_day-in-Event.ensures.count ∙ c.deref_mut-in-Event.ensures.len) in
    record {
      rates = are.rates;
      events = subst (AreListed is_event_of entries) (sym written) (same is_event_of entries (subst (AreListed is_event_of entries) (sym c.deref_mut-in-Event.ensures.value) are.events));
    }) c.add_day-in-Event.ensures.unchanged

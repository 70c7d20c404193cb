-- The observed events of a contract, entry by entry.
use Rattle.std.proofs.Common.{◌≡◌, ℕ, ◌+◌, ◌<◌, ◌≤◌, List, ◌++◌, length, drop, get_or, sym, ◌∙◌, ap, append_assoc, append-nil}
use Rattle.std.proofs.lemmas.List.{drop_all}
use Rattle.std.specs.List.{enumerate_from, flat_map}
use Rattle.act_model.specs.declared.observed.Obs.{Obs}
use Rattle.act_model.specs.declared.event.Event.{Event}
use Rattle.act_model.specs.declared.terms.Kind.{Kind}
use Rattle.act_model.specs.Observed.{observed_events}
use Rattle.act_model.specs.Run.{EventPlan, Stream}
use Rattle.act_model.specs.declared.terms.Terms.{Terms}
use Rattle.act_profile.specs.Contract.{observed_as}
use Rattle.act_profile.specs.Events.{events_of, events_of_children, events_of_entry, events_observed, events_scheduled, with_exercise}
use Rattle.act_profile.specs.Order.{counting, in_order}
use Rattle.act_model.proofs.Lists.{next_of}

-- the events of entries whose first has this place
abbrev pub events_from : Kind → ℕ → List Obs → List Event
events_from kind place entries = flat_map (events_of_entry kind) (enumerate_from place entries)

-- the first k of the entries have brought the earlier events to these
pub record HasAdded (kind : Kind) (entries : List Obs) (earlier events : List Event) (k : ℕ) : Type 0 where
  pub is : earlier ++ events_from kind 0 entries ≡ events ++ events_from kind k (drop k entries)

pub added_one : (kind : Kind) (entries : List Obs) (earlier events : List Event) (k : ℕ) (entry : Obs) →
    HasAdded kind entries earlier events k → k < length entries → entry ≡ get_or entries k entry →
    HasAdded kind entries earlier (events ++ events_of_entry kind (k, entry)) (k + 1)
added_one kind entries earlier events k entry so_far lt here =
    let next = ap (events_from kind k) (next_of entries k entry lt here) in
    record { is = so_far.is ∙ ap (λ others. events ++ others) next ∙ sym (append_assoc events (events_of_entry kind (k, entry)) (events_from kind (k + 1) (drop (k + 1) entries))) }

pub added_all : (kind : Kind) (entries : List Obs) (earlier events : List Event) (k : ℕ) →
    HasAdded kind entries earlier events k → length entries ≤ k → events ≡ earlier ++ events_from kind 0 entries
added_all kind entries earlier events k so_far le =
    sym (so_far.is ∙ ap (λ left. events ++ events_from kind k left) (drop_all k entries le) ∙ append-nil events)

-- ---- all of them

pub observed_are : (terms : Terms) (entries own : List Obs) → own ≡ observed_events entries (observed_as terms.common) → events_from terms.kind 0 own ≡ events_observed terms entries
unfolding events_observed
observed_are terms entries own are = ap (events_from terms.kind 0) are

-- the events of a contract, as they are put together
pub events_made : (terms : Terms) (plan : EventPlan) (entries own : List Obs) (children : List Stream) (scheduled added all ordered : List Event) → own ≡ observed_events entries (observed_as terms.common)
    → scheduled ≡ events_scheduled terms.common terms.kind plan entries → added ≡ scheduled ++ events_from terms.kind 0 own → all ≡ added ++ events_of_children terms.common terms.kind children → ordered ≡ in_order all
    → with_exercise terms.kind (counting terms.common.status_date terms.kind ordered) ≡ events_of terms plan entries children
unfolding events_of
events_made terms plan entries own children scheduled added all ordered are schedules adds puts orders =
    let own_are : added ≡ events_scheduled terms.common terms.kind plan entries ++ events_observed terms entries =
    adds ∙ ap (λ (earlier : List Event). earlier ++ events_from terms.kind 0 own) schedules
    ∙ ap (λ (later : List Event). events_scheduled terms.common terms.kind plan entries ++ later) (observed_are terms entries own are) in
    ap (λ (events : List Event). with_exercise terms.kind (counting terms.common.status_date terms.kind events))
    (orders ∙ ap in_order (puts ∙ ap (λ (earlier : List Event). earlier ++ events_of_children terms.common terms.kind children) own_are))

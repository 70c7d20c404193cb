-- The events of planned dates, date by date.
use Rattle.std.proofs.Common.{◌≡◌, ℕ, ◌+◌, ◌<◌, ◌≤◌, List, [], ◌∷◌, ◌++◌, map, length, drop, get_or, Option, Some, None, option_map, option_and_then, refl, sym, ◌∙◌, ap, append_assoc, append-nil, arith, length-append}
use Rattle.std.proofs.lemmas.List.{drop_all}
use Rattle.std.specs.List.{enumerate_from}
use Rattle.act_model.specs.declared.event.Event.{Event}
use Rattle.act_model.specs.declared.terms.Common.{Common}
use Rattle.act_profile.specs.Lists.{all_of}
use Rattle.act_profile.specs.Planning.{Planned, planned_event, planned_events}
use Rattle.act_model.proofs.Lists.{next_of}

-- the events of dates whose first has this place
abbrev pub events_from : Common → ℕ → List Planned → Option (List Event)
events_from common place dates = all_of (map (planned_event common) (enumerate_from place dates))

-- an event before others, where both are defined
abbrev pub before_others : Option Event → Option (List Event) → Option (List Event)
before_others event others = option_and_then (λ v. option_map (λ vs. v ∷ vs) others) event

events_from-cons : (common : Common) (place : ℕ) (date : Planned) (dates : List Planned) →
    events_from common place (date ∷ dates) ≡ before_others (planned_event common (place, date)) (events_from common (place + 1) dates)
unfolding all_of
events_from-cons common place date dates = refl

events_from-nil : (common : Common) (place : ℕ) → events_from common place [] ≡ Some []
unfolding all_of
events_from-nil common place = refl

-- events behind earlier ones
abbrev pub behind : List Event → Option (List Event) → Option (List Event)
behind events others = option_map (λ later. events ++ later) others

behind-before_others : (events : List Event) (event : Event) (others : Option (List Event)) →
    behind events (before_others (Some event) others) ≡ behind (events ++ event ∷ []) others
behind-before_others events event None = refl
behind-before_others events event (Some later) = ap Some (sym (append_assoc events (event ∷ []) later))

-- the first k of the dates have brought the earlier events to these
pub record HasAdded (common : Common) (dates : List Planned) (earlier events : List Event) (k : ℕ) : Type 0 where
  pub is : behind earlier (planned_events common dates) ≡ behind events (events_from common k (drop k dates))
  pub count : length events ≡ length earlier + k

pub added_none : (common : Common) (dates : List Planned) (earlier : List Event) → HasAdded common dates earlier earlier 0
added_none common dates earlier = record { is = refl; count = omega arith }

-- the event of the next date, and those behind it
next_event : (common : Common) (dates : List Planned) (k : ℕ) (date : Planned) → k < length dates → date ≡ get_or dates k date →
    events_from common k (drop k dates) ≡ before_others (planned_event common (k, date)) (events_from common (k + 1) (drop (k + 1) dates))
next_event common dates k date lt here =
    ap (events_from common k) (next_of dates k date lt here)
    ∙ events_from-cons common k date (drop (k + 1) dates)

pub added_one : (common : Common) (dates : List Planned) (earlier events : List Event) (k : ℕ) (date : Planned) (event : Event) →
    HasAdded common dates earlier events k → k < length dates → date ≡ get_or dates k date →
    planned_event common (k, date) ≡ Some event → HasAdded common dates earlier (events ++ event ∷ []) (k + 1)
added_one common dates earlier events k date event so_far lt here is =
    let others = events_from common (k + 1) (drop (k + 1) dates) in
    let next : events_from common k (drop k dates) ≡ before_others (Some event) others =
    next_event common dates k date lt here ∙ ap (λ e. before_others e others) is in
    record {
      is = so_far.is ∙ ap (behind events) next ∙ behind-before_others events event others;
      count = omega (arith, so_far.count, length-append events (event ∷ []));
    }

-- a date that is undefined leaves all of them so
none_of_behind : (events : List Event) (others : Option (List Event)) → behind events others ≡ None → others ≡ None
none_of_behind events None is = refl
none_of_behind events (Some later) is = cc

pub added_undefined : (common : Common) (dates : List Planned) (earlier events : List Event) (k : ℕ) (date : Planned) →
    HasAdded common dates earlier events k → k < length dates → date ≡ get_or dates k date →
    planned_event common (k, date) ≡ None → planned_events common dates ≡ None
added_undefined common dates earlier events k date so_far lt here is =
    let others = events_from common (k + 1) (drop (k + 1) dates) in
    let next : events_from common k (drop k dates) ≡ None = next_event common dates k date lt here ∙ ap (λ e. before_others e others) is in
    none_of_behind earlier (planned_events common dates) (so_far.is ∙ ap (behind events) next)

pub added_all : (common : Common) (dates : List Planned) (earlier events : List Event) (k : ℕ) →
    HasAdded common dates earlier events k → length dates ≤ k → behind earlier (planned_events common dates) ≡ Some events
added_all common dates earlier events k so_far le =
    so_far.is ∙ ap (λ left. behind events (events_from common k left)) (drop_all k dates le)
    ∙ ap (behind events) (events_from-nil common k) ∙ ap Some (append-nil events)

-- Events in order, cut at a day: putting in order, ending and counting keep what is dated before it.
use Rattle.std.proofs.Common.{◌≡◌, true, false, ℤ, List, [], ◌∷◌, map, inl, inr, refl, sym, ◌∙◌, ap, arith}
use Rattle.std.specs.List.{filter}
use Rattle.std.proofs.lemmas.Bool.{cases_Bool}
use Rattle.std.proofs.lemmas.Int.{ints}
use Rattle.act_model.specs.declared.event.Event.{Event}
use Rattle.act_model.specs.declared.event.Source.{Source}
use Rattle.act_model.specs.declared.event.Source.TheVariants.{Scheduled, Observed, Leg, Net}
use Rattle.act_model.specs.declared.terms.Kind.{Kind}
use Rattle.act_profile.specs.Lists.{insert_by}
use Rattle.act_profile.specs.Order.{counts, counting, ends, in_order, is_own, precedes, up_to_end}
use Rattle.act_causality.specs.Causality.{events_before, is_event_before, unplaced, unplaced_source}
use Rattle.act_causality.proofs.Lists.{IsCut, Late, cut-filter, filter-map, filter-swap, late-none}

-- what comes before a late event that it doesn't precede .. days of events
late-behind : (day : ℤ) (x y : Event) → is_event_before day x ≡ false → precedes y x ≡ false → is_event_before day y ≡ false
late-behind day x y late behind = grind (arith, ints)

late-first : (day : ℤ) (x y : Event) → is_event_before day y ≡ false → precedes y x ≡ true → is_event_before day x ≡ false
late-first day x y late first = grind (arith, ints)

late-insert : (day : ℤ) (x : Event) (ys : List Event) → is_event_before day x ≡ false → Late (is_event_before day) ys → Late (is_event_before day) (insert_by precedes x ys)
unfolding insert_by
late-insert day x [] here late = (here, tt)
late-insert day x (y ∷ ys) here late =
    elim (cases_Bool (precedes y x)) [
      | inl is ↦ rw is (late.0, late-insert day x ys here late.1)
      | inr fails ↦ rw fails (here, late)
    ]

all-late : (day : ℤ) (y : Event) (ys : List Event) → IsCut (is_event_before day) (y ∷ ys) → is_event_before day y ≡ false → Late (is_event_before day) (y ∷ ys)
all-late day y ys cut late = (late, cut.0 late)

cut-insert : (day : ℤ) (x : Event) (ys : List Event) → IsCut (is_event_before day) ys → IsCut (is_event_before day) (insert_by precedes x ys)
unfolding insert_by
cut-insert day x [] cut = ((λ late. tt), tt)
cut-insert day x (y ∷ ys) cut =
    elim (cases_Bool (precedes y x)) [
      | inl is ↦ rw is ((λ late. late-insert day x ys (late-first day x y late is) (cut.0 late)), cut-insert day x ys cut.1)
      | inr fails ↦ rw fails ((λ late. all-late day y ys cut (late-behind day x y late fails)), cut)
    ]

pub cut-in_order : (day : ℤ) (events : List Event) → IsCut (is_event_before day) (in_order events)
unfolding in_order
cut-in_order day [] = tt
cut-in_order day (event ∷ events) = cut-insert day event (in_order events) (cut-in_order day events)

-- ---- a filter by days, and an insertion

-- a late event is put behind all that is dated before the day
filter-insert_late : (day : ℤ) (x : Event) (ys : List Event) → is_event_before day x ≡ false → filter (is_event_before day) (insert_by precedes x ys) ≡ filter (is_event_before day) ys
unfolding insert_by
filter-insert_late day x [] late = rw late refl
filter-insert_late day x (y ∷ ys) late =
    elim (cases_Bool (precedes y x)) [
      | inl is ↦ elim (cases_Bool (is_event_before day y)) [
        | inl before ↦ rw is (rw before (ap (λ zs. y ∷ zs) (filter-insert_late day x ys late)))
        | inr after ↦ rw is (rw after (filter-insert_late day x ys late))
      ]
      | inr fails ↦ rw fails (rw late refl)
    ]

insert-none : (x : Event) (zs : List Event) → zs ≡ [] → insert_by precedes x zs ≡ x ∷ []
unfolding insert_by
insert-none x zs none = rw none refl

early-first : (day : ℤ) (x y : Event) → is_event_before day x ≡ true → is_event_before day y ≡ false → precedes y x ≡ false
early-first day x y early late = grind (arith, ints)

filter-insert_early : (day : ℤ) (x : Event) (ys : List Event) → is_event_before day x ≡ true → IsCut (is_event_before day) ys →
    filter (is_event_before day) (insert_by precedes x ys) ≡ insert_by precedes x (filter (is_event_before day) ys)
unfolding insert_by
filter-insert_early day x [] early cut = rw early refl
filter-insert_early day x (y ∷ ys) early cut =
    elim (cases_Bool (is_event_before day y)) [
      | inl before ↦ elim (cases_Bool (precedes y x)) [
        | inl is ↦ rw is (rw before (rw is (ap (λ zs. y ∷ zs) (filter-insert_early day x ys early cut.1))))
        | inr fails ↦ rw fails (rw early (rw before (rw fails refl)))
      ]
      | inr late ↦ rw (early-first day x y early late) (rw early (rw late (rw (late-none (is_event_before day) ys (cut.0 late)) refl)))
    ]

pub filter-in_order : (day : ℤ) (events : List Event) → filter (is_event_before day) (in_order events) ≡ in_order (filter (is_event_before day) events)
unfolding in_order
filter-in_order day [] = refl
filter-in_order day (event ∷ events) =
    elim (cases_Bool (is_event_before day event)) [
      | inl early ↦ rw early (filter-insert_early day event (in_order events) early (cut-in_order day events) ∙ ap (insert_by precedes event) (filter-in_order day events))
      | inr late ↦ rw late (filter-insert_late day event (in_order events) late ∙ filter-in_order day events)
    ]

-- ---- places of observations don't matter

unplaced-insert : (x : Event) (ys : List Event) → map unplaced (insert_by precedes x ys) ≡ insert_by precedes (unplaced x) (map unplaced ys)
unfolding insert_by
unplaced-insert x [] = refl
unplaced-insert x (y ∷ ys) =
    elim (cases_Bool (precedes y x)) [
      | inl is ↦ rw is (ap (λ zs. unplaced y ∷ zs) (unplaced-insert x ys))
      | inr fails ↦ rw fails refl
    ]

pub unplaced-in_order : (events : List Event) → map unplaced (in_order events) ≡ in_order (map unplaced events)
unfolding in_order
unplaced-in_order [] = refl
unplaced-in_order (event ∷ events) = unplaced-insert event (in_order events) ∙ ap (insert_by precedes (unplaced event)) (unplaced-in_order events)

own-unplaced : (source : Source) → is_own (unplaced_source source) ≡ is_own source
own-unplaced (Scheduled place) = refl
own-unplaced (Observed place) = refl
own-unplaced (Leg leg row) = refl
own-unplaced (Net first second) = refl

pub ends-unplaced : (contract : Kind) (event : Event) → ends contract (unplaced event) ≡ ends contract event
ends-unplaced contract event = rw (own-unplaced event.source) refl

pub unplaced-up_to_end : (contract : Kind) (events : List Event) → map unplaced (up_to_end contract events) ≡ up_to_end contract (map unplaced events)
unfolding up_to_end
unplaced-up_to_end contract [] = refl
unplaced-up_to_end contract (event ∷ events) =
    elim (cases_Bool (ends contract event)) [
      | inl is ↦ rw (ends-unplaced contract event) (rw is refl)
      | inr fails ↦ rw (ends-unplaced contract event) (rw fails (ap (λ zs. unplaced event ∷ zs) (unplaced-up_to_end contract events)))
    ]

-- ---- what ends a contract

pub late-up_to_end : (day : ℤ) (contract : Kind) (events : List Event) → Late (is_event_before day) events → Late (is_event_before day) (up_to_end contract events)
unfolding up_to_end
late-up_to_end day contract [] late = tt
late-up_to_end day contract (event ∷ events) late =
    elim (cases_Bool (ends contract event)) [
      | inl is ↦ rw is (late.0, tt)
      | inr fails ↦ rw fails (late.0, late-up_to_end day contract events late.1)
    ]

pub cut-up_to_end : (day : ℤ) (contract : Kind) (events : List Event) → IsCut (is_event_before day) events → IsCut (is_event_before day) (up_to_end contract events)
unfolding up_to_end
cut-up_to_end day contract [] cut = tt
cut-up_to_end day contract (event ∷ events) cut =
    elim (cases_Bool (ends contract event)) [
      | inl is ↦ rw is ((λ late. tt), tt)
      | inr fails ↦ rw fails ((λ late. late-up_to_end day contract events (cut.0 late)), cut-up_to_end day contract events cut.1)
    ]

pub filter-up_to_end : (day : ℤ) (contract : Kind) (events : List Event) → IsCut (is_event_before day) events →
    filter (is_event_before day) (up_to_end contract events) ≡ up_to_end contract (filter (is_event_before day) events)
unfolding up_to_end
filter-up_to_end day contract [] cut = refl
filter-up_to_end day contract (event ∷ events) cut =
    elim (cases_Bool (is_event_before day event)) [
      | inl early ↦ elim (cases_Bool (ends contract event)) [
        | inl is ↦ rw is (rw early (rw is refl))
        | inr fails ↦ rw fails (rw early (rw fails (ap (λ zs. event ∷ zs) (filter-up_to_end day contract events cut.1))))
      ]
      | inr late ↦
          late-none (is_event_before day) (up_to_end contract (event ∷ events)) (late-up_to_end day contract (event ∷ events) (late, cut.0 late))
          ∙ ap (up_to_end contract) (sym (late-none (is_event_before day) (event ∷ events) (late, cut.0 late)))
    ]

-- ---- what counts

pub cut-counting : (day : ℤ) (status : ℤ) (contract : Kind) (events : List Event) → IsCut (is_event_before day) (counting status contract (in_order events))
cut-counting day status contract events =
    cut-filter (is_event_before day) (λ e. counts status contract e.day) (up_to_end contract (in_order events))
    (cut-up_to_end day contract (in_order events) (cut-in_order day events))

-- those that count of events in order depend, before a day, on those dated before it
pub counting-before : (day : ℤ) (status : ℤ) (contract : Kind) (events : List Event) →
    events_before day (counting status contract (in_order events)) ≡ counting status contract (in_order (events_before day events))
counting-before day status contract events =
    ap (map unplaced)
    (filter-swap (is_event_before day) (λ e. counts status contract e.day) (up_to_end contract (in_order events))
    ∙ ap (filter (λ (e : Event). counts status contract e.day)) (filter-up_to_end day contract (in_order events) (cut-in_order day events) ∙ ap (up_to_end contract) (filter-in_order day events)))
    ∙ sym (filter-map (λ e. counts status contract e.day) (λ e. counts status contract e.day) unplaced (λ e. refl) (up_to_end contract (in_order (filter (is_event_before day) events))))
    ∙ ap (filter (λ (e : Event). counts status contract e.day)) (unplaced-up_to_end contract (in_order (filter (is_event_before day) events)) ∙ ap (up_to_end contract) (unplaced-in_order (filter (is_event_before day) events)))

-- The order of entries, and what a list that is sorted by it says of a contract's events.
use Rattle.std.proofs.Common.{◌≡◌, ℕ, ◌+◌, ◌<◌, ◌≤◌, Bool, true, false, List, [], ◌++◌, length, get_or, take, drop, refl, sym, ap, ◌∙◌, arith}
use Rattle.std.proofs.lemmas.Bool.Decides.{nat_tests}
use Rattle.std.proofs.lemmas.Cmp.{int_cmp_total, nat_cmp_total, on_total, then_total}
use Rattle.std.proofs.lemmas.List.{get_or-drop, length-drop, take-append-drop}
use Rattle.std.proofs.lemmas.List.Elements.{filter-append, filter_agree}
use Rattle.std.proofs.lemmas.List.Sorted.{ranks_by, sorted_far}
use Rattle.std.specs.Cmp.{IsStrictWeakOrder, IsTotalOrder}
use Rattle.std.specs.List.{filter}
use Rattle.std.specs.List.Sorted.{IsPartitionPoint, IsPartitionedBy, IsSortedBy, IsStableBy, ties}
use Rattle.act_model.specs.declared.observed.Obs.{Obs}
use Rattle.act_model.specs.declared.observed.Obs.TheVariants.{Rate, Event}
use Rattle.act_model.specs.Observed.{is_event_of, observed_events}
use Rattle.act_book.specs.Order.{before, day_of, event_of, is_before, number_of, order_of, rank_of}
use Rattle.act_book.proofs.Filters.{All-front, filter_front, filter_none}

pub order_total : IsTotalOrder order_of
order_total =
    then_total (on_total rank_of nat_cmp_total) (then_total (on_total number_of nat_cmp_total) (on_total day_of int_cmp_total))

pub weak : IsStrictWeakOrder before
weak = ranks_by order_total (λ x. x)

pub unless_false : (b : Bool) → (b ≡ false → ⊥) → b ≡ true
unless_false true other = refl
unless_false false other = absurd (other refl)

-- ---- lists that are sorted

module _ (sorted : List Obs) (rising : IsSortedBy before sorted) where
  pub far : (i j : ℕ) (d : Obs) → i ≤ j → j < length sorted → before (get_or sorted j d) (get_or sorted i d) ≡ false
  far = sorted_far before weak sorted rising

  pub parted_before : (x : Obs) → IsPartitionedBy (λ y. before y x) sorted
  parted_before x i j d le within is =
      unless_false (before (get_or sorted i d) x) (λ fails.
      let later : before (get_or sorted j d) x ≡ false = weak.chain (get_or sorted j d) (get_or sorted i d) x (far i j d le within) fails in cc)

-- ---- the events of a contract

module _ (contract : ℕ) where
  before_is : (y : Obs) → is_before contract y ≡ before y (event_of contract)
  before_is (Rate code day value) = refl
  before_is (Event c kind day value) = grind (arith, nat_tests)

  tied_is : (y : Obs) → is_event_of contract y ≡ ties before (event_of contract) y
  tied_is (Rate code day value) = refl
  tied_is (Event c kind day value) = grind (arith, nat_tests)

  no_event : (y : Obs) → is_before contract y ≡ true → is_event_of contract y ≡ false
  no_event (Rate code day value) is = refl
  no_event (Event c kind day value) is = grind (arith, nat_tests)

  -- the events of a list that is sorted stand together, and nothing before them is one
  module _ (sorted : List Obs) (rising : IsSortedBy before sorted) where
    pub parted_start : IsPartitionedBy (is_before contract) sorted
    parted_start i j d le within is =
        before_is (get_or sorted i d) ∙ parted_before sorted rising (event_of contract) i j d le within (sym (before_is (get_or sorted j d)) ∙ is)

    module _ (start : ℕ) (point : IsPartitionPoint (λ y. is_before contract y ≡ true) (λ y. is_before contract y ≡ false) sorted start) where
      tied_by : (y : Obs) → before (event_of contract) y ≡ false → before y (event_of contract) ≡ false → is_event_of contract y ≡ true
      tied_by y one other = tied_is y ∙ rw (one, other) refl

      not_behind : (y : Obs) → is_event_of contract y ≡ true → before (event_of contract) y ≡ false
      not_behind (Rate code day value) is = absurd (cc)
      not_behind (Event c kind day value) is = grind (arith, nat_tests)

      at_rest : (i j : ℕ) (d : Obs) → i ≤ j → j < length (drop start sorted) → is_event_of contract (get_or sorted (start + j) d) ≡ true → is_event_of contract (get_or sorted (start + i) d) ≡ true
      at_rest i j d le within is =
          let inside : start + j < length sorted = omega (arith, length-drop start sorted) in
          tied_by (get_or sorted (start + i) d)
          (weak.chain (event_of contract) (get_or sorted (start + j) d) (get_or sorted (start + i) d) (not_behind (get_or sorted (start + j) d) is) (far sorted rising (start + i) (start + j) d (omega arith) inside))
          (sym (before_is (get_or sorted (start + i) d)) ∙ point.1 (start + i) d (omega arith) (omega arith))

      pub parted_rest : IsPartitionedBy (is_event_of contract) (drop start sorted)
      parted_rest i j d le within is =
          rw (get_or-drop start sorted i d) (at_rest i j d le within (rw (get_or-drop start sorted j d) at is))

      none_before : filter (is_event_of contract) (take start sorted) ≡ []
      none_before =
          filter_none (is_event_of contract) (take start sorted) (All-front (λ y. is_event_of contract y ≡ false) sorted start (λ k d low below. no_event (get_or sorted k d) (point.0 k d low below)))

      pub events_at : (end : ℕ) → IsPartitionPoint (λ y. is_event_of contract y ≡ true) (λ y. is_event_of contract y ≡ false) (drop start sorted) end → observed_events sorted contract ≡ take end (drop start sorted)
      events_at end rest =
          ap (filter (is_event_of contract)) (sym (take-append-drop start sorted))
          ∙ filter-append (is_event_of contract) (take start sorted) (drop start sorted)
          ∙ ap (λ front. front ++ filter (is_event_of contract) (drop start sorted)) none_before
          ∙ filter_front (is_event_of contract) (drop start sorted) end rest.0 rest.1

  -- a list and the same sorted have the same events of the contract
  pub same_events : (entries sorted : List Obs) → IsStableBy before entries sorted → observed_events entries contract ≡ observed_events sorted contract
  same_events entries sorted stable =
      filter_agree (is_event_of contract) (ties before (event_of contract)) tied_is entries
      ∙ sym (stable (event_of contract))
      ∙ sym (filter_agree (is_event_of contract) (ties before (event_of contract)) tied_is sorted)

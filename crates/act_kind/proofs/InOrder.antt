-- Events in order: the one outcome of a stable sort by day and type.
use Rattle.std.proofs.Common.{◌≡◌, Bool, true, false, List, [], ◌∷◌, refl, sym, ◌∙◌, arith}
use Rattle.std.proofs.lemmas.Bool.Decides.{nat_tests}
use Rattle.std.proofs.lemmas.Int.{ints}
use Rattle.std.proofs.lemmas.List.Sorted.{IsPermutation-cons, IsPermutation-refl, IsPermutation-trans}
use Rattle.std.specs.Cmp.{IsStrictWeakOrder}
use Rattle.std.specs.List.{AllPairs, filter}
use Rattle.std.specs.List.Sorted.{IsPermutation, IsSortedBy, IsStableBy, ties}
use Rattle.act_kind.proofs.StableOrder.{Ascends, ascends-from_sorted, ascends-insert, filter-insert, pairs-from_ascends, permutation-insert, same_order}
use Rattle.act_model.specs.declared.event.Event.{Event}
use Rattle.act_profile.specs.Lists.{insert_by}
use Rattle.act_profile.specs.Order.{in_order, precedes}

precedes_one_way : (x y : Event) → precedes x y ≡ true → precedes y x ≡ false
precedes_one_way x y first = grind (arith, ints, nat_tests)

precedes_chain : (x y z : Event) → precedes x y ≡ false → precedes y z ≡ false → precedes x z ≡ false
precedes_chain x y z first second = grind (arith, ints, nat_tests)

pub precedes_is_order : IsStrictWeakOrder precedes
precedes_is_order = record { one_way = precedes_one_way; chain = precedes_chain }

pub in_order-ascends : (events : List Event) → Ascends precedes (in_order events)
unfolding in_order
in_order-ascends [] = tt
in_order-ascends (event ∷ events) = ascends-insert precedes precedes_is_order event (in_order events) (in_order-ascends events)

filter-cons : (p : Event → Bool) (event : Event) (xs ys : List Event) → filter p xs ≡ filter p ys → filter p (event ∷ xs) ≡ filter p (event ∷ ys)
filter-cons p event xs ys same = rw same refl

-- ---- what the order is

pub in_order-stable : (events : List Event) → IsStableBy precedes events (in_order events)
unfolding in_order
in_order-stable [] z = refl
in_order-stable (event ∷ events) z =
    filter-insert precedes precedes_is_order z event (in_order events) ∙ filter-cons (ties precedes z) event (in_order events) events (in_order-stable events z)

pub in_order-permutation : (events : List Event) → IsPermutation events (in_order events)
unfolding in_order
in_order-permutation [] = IsPermutation-refl []
in_order-permutation (event ∷ events) =
    IsPermutation-trans (event ∷ events) (event ∷ in_order events) (insert_by precedes event (in_order events))
    (IsPermutation-cons event events (in_order events) (in_order-permutation events)) (permutation-insert precedes precedes_is_order event (in_order events))

pub in_order-sorted : (events : List Event) → AllPairs (λ earlier later. precedes later earlier ≡ false) (in_order events)
in_order-sorted events = pairs-from_ascends precedes precedes_is_order (in_order events) (in_order-ascends events)

-- ---- and that there is no other

pub only_in_order : (events sorted : List Event) → IsSortedBy precedes sorted → IsStableBy precedes events sorted → sorted ≡ in_order events
only_in_order events sorted up stable =
    same_order precedes precedes_is_order sorted (in_order events) (ascends-from_sorted precedes precedes_is_order sorted up) (in_order-ascends events)
    (λ z. stable z ∙ sym (in_order-stable events z))

-- what is in order stays so
pub in_order-again : (events : List Event) → in_order (in_order events) ≡ in_order events
in_order-again events =
    same_order precedes precedes_is_order (in_order (in_order events)) (in_order events) (in_order-ascends (in_order events)) (in_order-ascends events)
    (in_order-stable (in_order events))

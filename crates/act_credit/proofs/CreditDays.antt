-- The first day of a credit event of several contracts, one after another.
use Rattle.std.proofs.Common.{◌≡◌, ℕ, ◌+◌, ◌<◌, ℤ, Bool, List, [], ◌∷◌, ◌++◌, length, get_or, take, Option, Some, refl, ap, ◌∙◌, arith}
use Rattle.std.proofs.lemmas.Grind.{flat_map-append}
use Rattle.std.proofs.lemmas.Int.{ints, clamps}
use Rattle.std.proofs.lemmas.List.{append-nil, take_more}
use Rattle.std.proofs.lemmas.List.Elements.{filter-append}
use Rattle.std.proofs.lemmas.List.Sums.{fold-append}
use Rattle.std.specs.Int.{int_min}
use Rattle.std.specs.List.{filter, flat_map, fold}
use Rattle.act_option.specs.Earliest.{earlier}
use Rattle.act_profile.specs.Dates.{least}

-- ---- the least of two lists of days

min_assoc : (a b c : ℤ) → int_min (int_min a b) c ≡ int_min a (int_min b c)
min_assoc a b c = omega (arith, ints, clamps)

min_fold : (a b : ℤ) (days : List ℤ) → fold int_min (int_min a b) days ≡ int_min a (fold int_min b days)
min_fold a b [] = refl
min_fold a b (day ∷ days) = ap (λ x. fold int_min x days) (min_assoc a b day) ∙ min_fold a (int_min b day) days

least_both : (days others : List ℤ) → least (days ++ others) ≡ earlier (least days) (least others)
least_both [] [] = refl
least_both [] (other ∷ others) = refl
least_both (day ∷ days) [] = ap least (append-nil (day ∷ days))
least_both (day ∷ days) (other ∷ others) = ap Some (fold-append int_min day days (other ∷ others) ∙ min_fold (fold int_min day days) other others)

-- ---- a turn of the loop over the covered contracts

module _ {X : Type 0} (test : ℤ → Bool) (days_of : X → List ℤ) where
  days_more : (items : List X) (item : X) → filter test (flat_map days_of (items ++ item ∷ [])) ≡ filter test (flat_map days_of items) ++ filter test (days_of item)
  days_more items item =
      ap (filter test) (flat_map-append days_of items (item ∷ [])) ∙ filter-append test (flat_map days_of items) (days_of item ++ [])
      ∙ ap (λ days. filter test (flat_map days_of items) ++ filter test days) (append-nil (days_of item))

  pub first_turn : (items : List X) (i : ℕ) (item : X) (first day : Option ℤ) → i < length items → item ≡ get_or items i item →
      first ≡ least (filter test (flat_map days_of (take i items))) → day ≡ least (filter test (days_of item)) →
      earlier first day ≡ least (filter test (flat_map days_of (take (i + 1) items)))
  first_turn items i item first day lt here is next =
      rw (take_more items i item lt, ← here, days_more (take i items) item, least_both (filter test (flat_map days_of (take i items))) (filter test (days_of item)), is, next) refl

-- The first event that ends a contract, among those that can.
use Rattle.std.proofs.Common.{◌≡◌, ℕ, zero, suc, ◌<◌, ◌≤◌, ◌+◌, true, false, true≢false, nat_lt, List, [], ◌∷◌, ◌++◌, length, take, drop, get_or, Some, None, inl, inr, refl, sym, ap, subst, ◌∙◌, arith}
use Rattle.std.proofs.lemmas.Bool.{cases_Bool}
use Rattle.std.proofs.lemmas.Bool.Decides.{nat_tests}
use Rattle.std.specs.List.{AllPairs, filter, find}
use Rattle.std.specs.List.Sorted.{IsPartitionedBy}
use Rattle.act_model.proofs.Lists.{take_parts}
use Rattle.act_model.specs.Run.{may_end}
use Rattle.act_model.specs.declared.event.Event.{Event}
use Rattle.act_model.specs.declared.terms.Kind.{Kind}
use Rattle.act_profile.specs.Order.{ends, precedes, up_to_end}
use Rattle.act_kind.proofs.Ends.{ending}
use Rattle.act_kind.proofs.InOrder.{precedes_is_order}
use Rattle.act_kind.proofs.StableOrder.{no_self}

-- ---- events in order are parted by those that come before one

parted_at : (earlier later end : Event) → precedes later earlier ≡ false → precedes later end ≡ true → precedes earlier end ≡ true
parted_at earlier later end order is =
    elim (cases_Bool (precedes earlier end)) [
      | inl before ↦ before
      | inr fails ↦ absurd (true≢false (sym is ∙ precedes_is_order.chain later earlier end order fails))
    ]

pub parted_end : (events : List Event) (end : Event) → AllPairs (λ earlier later. precedes later earlier ≡ false) events → IsPartitionedBy (λ e. precedes e end) events
parted_end events end order i j d before within is =
    elim (cases_Bool (nat_lt i j)) [
      | inl lt ↦ parted_at (get_or events i d) (get_or events j d) end (order i j d (grind (arith, nat_tests)) within) is
      | inr ge ↦ let same : j ≡ i = grind (arith, nat_tests) in subst (λ n. precedes (get_or events n d) end ≡ true) same is
    ]

module _ (kind : Kind) where
  -- ---- the first that ends the contract, among those that can

  goes_on : (x : Event) (xs : List Event) → ends kind x ≡ false → up_to_end kind (x ∷ xs) ≡ x ∷ up_to_end kind xs
  unfolding up_to_end
  goes_on x xs fails = rw fails refl

  pub found_among : (xs : List Event) → find (ends kind) (filter may_end xs) ≡ find (ends kind) xs
  found_among [] = refl
  found_among (x ∷ xs) =
      elim (cases_Bool (may_end x)) [
        | inl may ↦ rw may (elim (cases_Bool (ends kind x)) [ inl is ↦ rw is refl | inr fails ↦ rw fails (found_among xs) ])
        | inr never ↦
            elim (cases_Bool (ends kind x)) [
              | inl is ↦ absurd (true≢false (sym (ending kind x is) ∙ never))
              | inr fails ↦ rw (never, fails) (found_among xs)
            ]
      ]

  -- where none does, all events are up to the end
  pub none_ends : (xs : List Event) → find (ends kind) xs ≡ None → up_to_end kind xs ≡ xs
  unfolding up_to_end
  none_ends [] none = refl
  none_ends (x ∷ xs) none =
      elim (cases_Bool (ends kind x)) [
        | inl is ↦ let never : Some x ≡ None = rw is at none in absurd (cc)
        | inr fails ↦ let rest : find (ends kind) xs ≡ None = rw fails at none in rw fails (ap (λ (l : List Event). x ∷ l) (none_ends xs rest))
      ]

  -- events that come before the first that does don't end it
  split : (xs : List Event) (end : Event) (k : ℕ) → ((i : ℕ) (d : Event) → i < k → precedes (get_or xs i d) end ≡ true) → k ≤ length xs → find (ends kind) xs ≡ Some end
      → up_to_end kind xs ≡ take k xs ++ up_to_end kind (drop k xs)
  split xs end zero before within found = refl
  split [] end (suc k) before within found = absurd (omega (arith, within))
  split (x ∷ xs) end (suc k) before within found =
      elim (cases_Bool (ends kind x)) [
        | inl is ↦
            let first : Some x ≡ Some end = rw is at found in
            let same : x ≡ end = cc in
            absurd (true≢false (sym (before 0 x (omega arith)) ∙ ap (λ e. precedes x e) (sym same) ∙ no_self precedes precedes_is_order x))
        | inr fails ↦
            let rest : find (ends kind) xs ≡ Some end = rw fails at found in
            goes_on x xs fails ∙ ap (λ (l : List Event). x ∷ l) (split xs end k (λ i d lt. before (suc i) d (omega (arith, lt))) (omega (arith, within)) rest)
      ]

  -- so the events up to the end are those before it, and those up to the end among the others
  pub up_to_first : (xs : List Event) (end : Event) (k r : ℕ) → ((i : ℕ) (d : Event) → i < k → precedes (get_or xs i d) end ≡ true) → k ≤ length xs → find (ends kind) xs ≡ Some end
      → take r (drop k xs) ≡ up_to_end kind (drop k xs) → take (k + r) xs ≡ up_to_end kind xs
  up_to_first xs end k r before within found taken =
      sym (take_parts k (k + r) xs (omega arith)) ∙ ap (λ m. take k xs ++ take m (drop k xs)) (omega arith) ∙ ap (λ (l : List Event). take k xs ++ l) taken ∙ sym (split xs end k before within found)

-- A text, cut at the first byte that passes a test, and that byte's place, as a search answers it.
use Rattle.std.proofs.Common.{◌≡◌, ℕ, ◌+◌, ◌-◌, ◌≤◌, ◌<◌, Bool, true, false, List, [], ◌∷◌, length, take, drop, get_or, Option, Some, None, refl, arith, length-drop, sym, ⊎_elim}
use Rattle.std.proofs.lemmas.Bool.{cases_Bool}
use Rattle.std.proofs.lemmas.Bool.Decides.{nat_tests}
use Rattle.std.proofs.lemmas.List.{take_all}
use Rattle.std.proofs.lemmas.List.Quantifiers.{position-Some}
use Rattle.std.proofs.lemmas.List.Splits.{slice_split_first, slice_split_none}
use Rattle.std.proofs.lemmas.List.Sums.{fails_before_first, position_or_len_is}
use Rattle.std.specs.List.{position, position_or_len, slice_split}
use Rattle.memchr.specs.Find.{IsFirstByte}

module _ (p : ℕ → Bool) (text : List ℕ) where
  none_passes : position p text ≡ None → length text ≤ position_or_len p text
  none_passes e = grind (arith, nat_tests)

  pub cut_nowhere : None ≡ position p text → slice_split p text ≡ text ∷ []
  cut_nowhere e =
      let all = none_passes (sym e) in
      slice_split_none p text (λ k d within. fails_before_first p text k d (omega arith))

  pub cut_at : (end : ℕ) → Some end ≡ position p text → slice_split p text ≡ take end text ∷ slice_split p (take (length text - (end + 1)) (drop (end + 1) text))
  cut_at end e =
      let at = position-Some p text end 0 (sym e) in
      let first : position_or_len p text ≡ end = position_or_len_is p text end 0 (omega arith) at.2 (λ _. at.1) in
      let behind = take_all (length text - (end + 1)) (drop (end + 1) text) (omega (arith, length-drop (end + 1) text)) in
      rw behind (rw first at (slice_split_first p text 0 (omega arith)))

  fails : (b : ℕ) → ¬ (p b ≡ true) → p b ≡ false
  fails b never = ⊎_elim (λ (passes : p b ≡ true). absurd (never passes)) (λ (none : p b ≡ false). none) (cases_Bool (p b))

  found_nowhere : (place : Option ℕ) → position p text ≡ place → IsFirstByte p text None → None ≡ place
  found_nowhere None e none = refl
  found_nowhere (Some at) e none = let there = position-Some p text at 0 e in absurd (none at (omega arith) there.0 there.1)

  found_at : (k : ℕ) → IsFirstByte p text (Some k) → Some k ≡ position p text
  found_at k first =
      let within : k < length text = first.0.high in
      let here : position_or_len p text ≡ k = position_or_len_is p text k 0 (omega arith) (λ j below. fails (get_or text j 0) (first.0.before j (omega arith) below)) (λ _. first.1) in
      grind (arith, nat_tests)

  -- the place that a search answers is the position
  pub found : (place : Option ℕ) → IsFirstByte p text place → place ≡ position p text
  found None none = found_nowhere (position p text) refl none
  found (Some k) first = found_at k first

-- A date put behind those that are earlier.
use Rattle.std.proofs.Common.{◌≡◌, ◌≤◌, ℕ, zero, suc, ◌+◌, Bool, drop, true, false, ℤ, List, [], ◌∷◌, Some, inl, inr, refl, ap, arith}
use Rattle.std.proofs.lemmas.Bool.{cases_Bool}
use Rattle.std.proofs.lemmas.Int.{ints}
use Rattle.std.proofs.lemmas.List.Sums.{prefix_len-le-length}
use Rattle.std.specs.List.{insert, prefix_len}
use Rattle.act_kind.specs.Insertion.{earlier}
use Rattle.std.specs.Prelude.{int_lt, slice_get}
use Rattle.act_profile.specs.Lists.{insert_once_by}

pub ruleset prefix_within = (prefix_len-le-length)

-- the place behind an earlier date
one_more : (n : ℕ) → 1 + n ≡ suc n
one_more n = omega arith

differs_from : (x y : ℤ) → int_lt y x ≡ false → (y ≡ x → ⊥) → int_lt x y ≡ true
differs_from x y late other =
    elim (cases_Bool (int_lt x y)) [
      | inl holds ↦ holds
      | inr fails ↦ absurd (other (omega (arith, ints)))
    ]

not_before_self : (x y : ℤ) → y ≡ x → int_lt x y ≡ false
not_before_self x y same =
    elim (cases_Bool (int_lt x y)) [
      | inl holds ↦ absurd (omega (arith, ints))
      | inr fails ↦ fails
    ]

pub inserted_old : (x : ℤ) (xs : List ℤ) → slice_get xs (earlier x xs) ≡ Some x → insert_once_by int_lt xs x ≡ xs
unfolding insert_once_by
inserted_old x [] is = cc
inserted_old x (y ∷ ys) is =
    elim (cases_Bool (int_lt y x)) [
      | inl holds ↦ rw holds (ap (λ l. y ∷ l) (inserted_old x ys (rw (holds, one_more) at is)))
      | inr fails ↦
          let same : y ≡ x = let first = rw fails at is in cc in
          let none = not_before_self x y same in
          rw (fails, none) refl
    ]

pub inserted_new : (x : ℤ) (xs : List ℤ) → (slice_get xs (earlier x xs) ≡ Some x → ⊥) → insert_once_by int_lt xs x ≡ insert xs (earlier x xs) x
unfolding insert_once_by
inserted_new x [] other = refl
inserted_new x (y ∷ ys) other =
    elim (cases_Bool (int_lt y x)) [
      | inl holds ↦
          let later : slice_get ys (earlier x ys) ≡ Some x → ⊥ = λ is. other (rw (holds, one_more) is) in
          rw (holds, one_more) (ap (λ l. y ∷ l) (inserted_new x ys later))
      | inr fails ↦
          let before : int_lt x y ≡ true = differs_from x y fails (λ same. other (rw fails (ap Some same))) in
          rw (fails, before) refl
    ]

-- ---- looking on from a place

-- where the first k pass, those that pass behind them are the rest
pub counted_on : {A : Type 0} (p : A → Bool) (xs : List A) (k : ℕ) → k ≤ prefix_len p xs → k + prefix_len p (drop k xs) ≡ prefix_len p xs
counted_on p xs zero le = omega arith
counted_on p [] (suc k) le = absurd (omega arith)
counted_on p (x ∷ xs) (suc k) le =
    elim (cases_Bool (p x)) [
      | inl holds ↦
          let rest : k ≤ prefix_len p xs = let more = rw holds at le in omega arith in
          rw holds (omega (arith, counted_on p xs k rest))
      | inr fails ↦ let none = rw fails at le in absurd (omega arith)
    ]

before_later : (x d e : ℤ) → int_lt x d ≡ true → int_lt d e ≡ true → int_lt x e ≡ true
before_later x d e first second =
    elim (cases_Bool (int_lt x e)) [ inl holds ↦ holds | inr fails ↦ absurd (omega (arith, ints)) ]

-- those before a date are before a later one too, where the date stands among them
pub reaches : (d e : ℤ) (xs : List ℤ) → int_lt d e ≡ true → earlier d xs ≤ earlier e (insert_once_by int_lt xs d)
unfolding insert_once_by
reaches d e [] after = omega arith
reaches d e (x ∷ xs) after =
    elim (cases_Bool (int_lt x d)) [
      | inl holds ↦
          let too = before_later x d e holds after in
          rw (holds, too) (omega (arith, reaches d e xs after))
      | inr fails ↦ rw fails (omega arith)
    ]

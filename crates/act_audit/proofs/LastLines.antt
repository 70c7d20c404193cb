-- Where the last line of bytes begins.
use Rattle.std.proofs.Common.{◌≡◌, ℕ, zero, suc, ◌<◌, true, false, inl, inr, List, [], ◌∷◌, get_or, length, take, refl, ap, arith}
use Rattle.std.proofs.lemmas.Bool.{cases_Bool, eqb-true}
use Rattle.act_audit.specs.Text.{is_feed, last_line_at, one_further}

-- another byte is no line feed
pub no-such-byte : (byte : ℕ) → (byte ≡ 10 → ⊥) → is_feed byte ≡ false
no-such-byte byte other = elim (cases_Bool (is_feed byte)) [
  | inl is ↦ absurd (other (eqb-true byte 10 is))
  | inr none ↦ none
]

-- a byte that is no line feed, with one behind it, moves nothing
pub no-feed : (xs : List ℕ) (k d : ℕ) → suc k < length xs → is_feed (get_or xs k d) ≡ false → last_line_at (take (suc (suc k)) xs) ≡ last_line_at (take (suc k) xs)
no-feed [] k d within other = absurd (omega (arith, within))
no-feed (x ∷ []) k d within other = absurd (omega (arith, within))
no-feed (x ∷ y ∷ xs) zero d within other = rw other refl
no-feed (x ∷ y ∷ xs) (suc k) d within other = ap (λ (n : ℕ). one_further n (is_feed x)) (no-feed (y ∷ xs) k d (omega (arith, within)) other)

-- behind a line feed the last line begins, where one byte stands behind it
pub at-feed : (xs : List ℕ) (k d : ℕ) → suc k < length xs → is_feed (get_or xs k d) ≡ true → last_line_at (take (suc (suc k)) xs) ≡ suc k
at-feed [] k d within is = absurd (omega (arith, within))
at-feed (x ∷ []) k d within is = absurd (omega (arith, within))
at-feed (x ∷ y ∷ xs) zero d within is = rw is refl
at-feed (x ∷ y ∷ xs) (suc k) d within is = ap (λ (n : ℕ). one_further n (is_feed x)) (at-feed (y ∷ xs) k d (omega (arith, within)) is)

-- one byte is one line
pub one-byte : (xs : List ℕ) → last_line_at (take 1 xs) ≡ 0
one-byte [] = refl
one-byte (x ∷ xs) = refl

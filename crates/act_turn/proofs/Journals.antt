-- Prefixes, and the entries of an author.
use Rattle.std.proofs.Common.{◌≡◌, ◌≢◌, ℕ, List, [], ◌∷◌, ◌++◌, ◌⊎◌, refl, ap, sym, ◌∙◌, ⊎_elim, Some, None, Option, false, append_assoc, ne_eqb}
use Rattle.std.specs.List.{All}
use Rattle.std.proofs.lemmas.List.{append-nil}
use Rattle.std.proofs.lemmas.List.Elements.{All-nil, All-head, All-tail, filter-append}
use mathlib.Core.List.{IsPrefix}
use Rattle.act_turn.specs.Journal.{is_by, entries_of, GoesOn}

pub prefix_self : {A : Type 0} (xs : List A) → IsPrefix xs xs
prefix_self xs = ([], append-nil xs)

pub prefix_trans : {A : Type 0} (xs ys zs : List A) → IsPrefix xs ys → IsPrefix ys zs → IsPrefix xs zs
prefix_trans xs ys zs p q = (p.0 ++ q.0, sym (append_assoc xs p.0 q.0) ∙ (ap (λ w. w ++ q.0) p.1 ∙ q.1))

module _ {E : Type 0} (author : E → Option ℕ) where
  none_by : (k m : ℕ) → m ≢ k → (xs : List E) → All (λ e. (author e ≡ Some m) ⊎ (author e ≡ None)) xs → entries_of author k xs ≡ []
  none_by k m other [] h = refl
  none_by k m other (x ∷ xs) h =
      let f : is_by k (author x) ≡ false = ⊎_elim (λ (e : author x ≡ Some m). ap (is_by k) e ∙ ne_eqb m k other) (λ (e : author x ≡ None). ap (is_by k) e) (All-head (λ e. (author e ≡ Some m) ⊎ (author e ≡ None)) x xs h) in
      rw f (none_by k m other xs (All-tail (λ e. (author e ≡ Some m) ⊎ (author e ≡ None)) x xs h))

  -- where the list goes on by entries of the author m, those of another author stay
  pub goes_past : (k m : ℕ) (xs ys : List E) → GoesOn author m xs ys → m ≢ k → entries_of author k ys ≡ entries_of author k xs
  goes_past k m xs ys on other = ap (entries_of author k) on.1
      ∙ (filter-append (λ e. is_by k (author e)) xs on.0 ∙ (ap (λ w. entries_of author k xs ++ w) (none_by k m other on.0 on.2) ∙ append-nil (entries_of author k xs)))

  pub stays_on : (m : ℕ) (xs : List E) → GoesOn author m xs xs
  stays_on m xs = ([], sym (append-nil xs), All-nil (λ e. (author e ≡ Some m) ⊎ (author e ≡ None)))

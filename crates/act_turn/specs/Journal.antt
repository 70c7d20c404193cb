-- Whose an entry of a journal is.
use Rattle.std.specs.Prelude.{ℕ, ◌≡◌, ◌==◌, ◌⊎◌, List, ◌++◌, filter, All, Bool, false, Option, Some, None}

-- whether this author is the number k
abbrev pub is_by : ℕ → Option ℕ → Bool
is_by k None = false
is_by k (Some j) = j == k

module _ {E : Type 0} (author : E → Option ℕ) where
  -- the entries whose author is k, in their order
  abbrev pub entries_of : ℕ → List E → List E
  entries_of k xs = filter (λ e. is_by k (author e)) xs

  -- the list goes on from what was seen, and each entry that was added has k as author, or none
  abbrev pub GoesOn : ℕ → List E → List E → Type 0
  GoesOn k seen xs = (added : List E) × (xs ≡ seen ++ added) × All (λ e. (author e ≡ Some k) ⊎ (author e ≡ None)) added

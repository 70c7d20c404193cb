-- A number that is looked for in an ascending list by halving: it is found exactly where it is in the list.
use Rattle.std.proofs.Common.{◌≡◌, ℕ, ◌<◌, ◌≤◌, ◌⊎◌, false, nat_cmp, ◌==◌, List, length, get_or, Result, Ok, Err, inl, inr, is_ok, sym, arith}
use Rattle.std.proofs.lemmas.Bool.{cases_lt}
use Rattle.std.proofs.lemmas.Bool.Decides.{nat_tests}
use Rattle.std.proofs.Math.Nat.{eq-or-lt_of_le}
use Rattle.std.proofs.lemmas.Grind.{get_or_default_zero}
use Rattle.std.proofs.lemmas.List.Folds.{list_any_at, list_any_none}
use Rattle.std.proofs.lemmas.List.Kept.{AllPairs-from_increasing}
use Rattle.std.proofs.lemmas.List.Sorted.{searched}
use Rattle.std.specs.List.Sorted.{IsBinarySearchResult, IsStrictlyIncreasing}
use Rattle.act_profile.specs.Reads.{is_in}

-- no number is above a later one
no_fall : (numbers : List ℕ) → IsStrictlyIncreasing numbers → (i j : ℕ) → i ≤ j → j < length numbers → get_or numbers i 0 ≤ get_or numbers j 0
no_fall numbers ascending i j le lt =
    elim (eq-or-lt_of_le le) [
      | inl same ↦ rw same (omega arith)
      | inr less ↦ let below : get_or numbers i 0 < get_or numbers j 0 = AllPairs-from_increasing numbers ascending i j 0 less lt in omega arith
    ]

-- a number below or above another isn't it
differs : (m n : ℕ) → (m < n) ⊎ (n < m) → (m == n) ≡ false
differs m n (inl less) = grind (arith, nat_tests)
differs m n (inr less) = grind (arith, nat_tests)

-- a number that stands somewhere is in the list, and one that differs from each isn't
pub found : (numbers : List ℕ) (n : ℕ) (result : Result ℕ ℕ) → IsStrictlyIncreasing numbers → IsBinarySearchResult (λ y. nat_cmp y n) numbers result → is_ok result ≡ is_in numbers n
found numbers n (Ok place) ascending is =
    let there = searched numbers n (Ok place) is (no_fall numbers ascending) in
    sym (list_any_at (λ m. m == n) numbers place 0 there.0 (grind (arith, nat_tests)))
found numbers n (Err place) ascending is =
    let apart = searched numbers n (Err place) is (no_fall numbers ascending) in
    let apart_at : (k d : ℕ) → k < length numbers → (get_or numbers k d < n) ⊎ (n < get_or numbers k d) = λ k d lt.
    elim (cases_lt k place) [
      | inl before ↦ inl (rw (get_or_default_zero numbers k d lt) (apart.1 k before))
      | inr behind ↦ inr (rw (get_or_default_zero numbers k d lt) (apart.2 k behind lt))
    ] in
    sym (list_any_none (λ m. m == n) numbers (λ k d lt. differs (get_or numbers k d) n (apart_at k d lt)))

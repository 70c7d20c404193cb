-- A list that has each number of a range and no other, each once, is a permutation of the range.
use Rattle.std.proofs.Common.{◌≡◌, ◌≢◌, ℕ, zero, suc, ◌+◌, ◌<◌, ◌≤◌, eqb, false, List, [], ◌∷◌, length, get_or, sym, arith}
use Rattle.std.proofs.lemmas.Bool.{eqb-false}
use Rattle.std.proofs.lemmas.Bool.Decides.{Decides-eqb, nat_tests}
use Rattle.std.proofs.lemmas.List.Elements.{All-from_recursion}
use Rattle.std.proofs.lemmas.List.Sorted.{All-permutation, Contains-permutation, IsPermutation-cons, IsPermutation-refl, IsPermutation-remove, IsPermutation-sym, IsPermutation-trans}
use Rattle.std.proofs.lemmas.Map.Keys.{IsDistinct-IsPermutation, IsDistinct-head, IsDistinct-tail}
use Rattle.std.proofs.lemmas.Map.Made.{IsDistinct-from_AllPairs}
use Rattle.std.specs.List.{All, AllPairs, Contains, IsDistinct, range_with_len, remove}
use Rattle.std.specs.List.Sorted.{IsPermutation}

flips : (x y : ℕ) → eqb x y ≡ eqb y x
flips x y = grind (arith, nat_tests)

-- an element behind the head
pub behind : (a c : ℕ) (xs : List ℕ) → a ≢ c → Contains (a ∷ xs) c → Contains xs c
behind a c xs other has = go has.0 has.1 has.2 where
  go : (k : ℕ) → k < length (a ∷ xs) → get_or (a ∷ xs) k c ≡ c → Contains xs c
  go zero lt is = absurd (other is)
  go (suc k) lt is = (k, omega arith, is)

permutes : (n a : ℕ) (xs : List ℕ) → IsDistinct eqb xs → ((c : ℕ) → a ≤ c → c < a + n → Contains xs c) → All (λ c. (a ≤ c) × (c < a + n)) xs → IsPermutation (range_with_len a n) xs
permutes zero a [] distinct each only = IsPermutation-refl []
permutes zero a (x ∷ xs) distinct each only = let none = only 0 x (omega arith) in absurd (omega arith)
permutes (suc n) a xs distinct each only =
    let at = each a (omega arith) (omega arith) in
    let rest = remove xs at.0 in
    let moved : IsPermutation xs (a ∷ rest) = IsPermutation-remove xs at.0 a at.1 (sym at.2) in
    let apart : IsDistinct eqb (a ∷ rest) = IsDistinct-IsPermutation eqb flips xs (a ∷ rest) moved distinct in
    let heads : All (λ y. eqb a y ≡ false) rest = All-from_recursion (λ y. eqb a y ≡ false) rest (IsDistinct-head eqb a rest apart) in
    let bounds : All (λ c. (a ≤ c) × (c < a + suc n)) (a ∷ rest) = All-permutation (λ c. (a ≤ c) × (c < a + suc n)) xs (a ∷ rest) moved only in
    let later = permutes n (a + 1) rest (IsDistinct-tail eqb a rest apart)
    (λ c le lt. behind a c rest (omega arith) (Contains-permutation xs (a ∷ rest) c moved (each c (omega arith) (omega arith))))
    (λ k d lt.
    let differs = eqb-false a (get_or rest k d) (heads k d lt) in
    let bound = bounds (suc k) d (omega arith) in
    (omega arith, omega arith)) in
    IsPermutation-trans (range_with_len a (suc n)) (a ∷ rest) xs (IsPermutation-cons a (range_with_len (a + 1) n) rest later) (IsPermutation-sym xs (a ∷ rest) moved)

pub permutes_all : (n : ℕ) (xs : List ℕ) → AllPairs (λ x y. x ≢ y) xs → ((c : ℕ) → c < n → Contains xs c) → All (λ c. c < n) xs → IsPermutation (range_with_len 0 n) xs
permutes_all n xs apart each only =
    permutes n 0 xs (IsDistinct-from_AllPairs Decides-eqb xs apart) (λ c le lt. each c (omega arith)) (λ k d lt. (omega arith, omega (arith, only k d lt)))

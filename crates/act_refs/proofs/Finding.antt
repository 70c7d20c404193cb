-- The first element that passes a test.
use Rattle.std.proofs.Common.{◌≡◌, zero-add, ℕ, zero, suc, ◌<◌, Bool, true, false, List, [], ◌∷◌, length, get_or, Some, None, inl, inr, refl, sym, ◌∙◌, arith}
use Rattle.std.proofs.lemmas.Bool.{cases_Bool, cond-false, cond-true}
use Rattle.std.proofs.lemmas.List.Elements.{All-cons}
use Rattle.std.proofs.lemmas.List.FromFn.{get_or-range_with_len, length-range_with_len}
use Rattle.std.proofs.lemmas.Option.{none-some}
use Rattle.std.specs.List.{All, Contains, find, range_with_len}

pub find_first : (p : ℕ → Bool) (xs : List ℕ) (i d x : ℕ) → i < length xs → get_or xs i d ≡ x → p x ≡ true → ((k : ℕ) → k < i → p (get_or xs k d) ≡ false) → find p xs ≡ Some x
find_first p [] i d x lt is pass fails = absurd (omega arith)
find_first p (y ∷ ys) zero d x lt is pass fails =
    let same : y ≡ x = is in
    rw same (cond-true (p x) (Some x) (find p ys) pass)
find_first p (y ∷ ys) (suc i) d x lt is pass fails =
    cond-false (p y) (Some y) (find p ys) (fails 0 (omega arith)) ∙ find_first p ys i d x (omega arith) is pass (λ k few. fails (suc k) (omega arith))

pub find_none : (p : ℕ → Bool) (xs : List ℕ) → All (λ x. p x ≡ false) xs → find p xs ≡ None
find_none p [] fails = refl
find_none p (y ∷ ys) fails =
    cond-false (p y) (Some y) (find p ys) (fails 0 0 (omega arith)) ∙ find_none p ys (λ k d lt. fails (suc k) d (omega arith))

pub none_found : (p : ℕ → Bool) (xs : List ℕ) → find p xs ≡ None → All (λ x. p x ≡ false) xs
none_found p [] none = λ k d lt. absurd (omega arith)
none_found p (y ∷ ys) none = elim (cases_Bool (p y)) [
  | inl pass ↦ absurd (none-some y (sym none ∙ cond-true (p y) (Some y) (find p ys) pass))
  | inr fail ↦ All-cons (λ x. p x ≡ false) y ys fail (none_found p ys (sym (cond-false (p y) (Some y) (find p ys) fail) ∙ none))
]

-- ---- among the numbers below another

pub get_or-numbers : (n i d : ℕ) → i < n → get_or (range_with_len 0 n) i d ≡ i
get_or-numbers n i d lt = get_or-range_with_len 0 n i d lt ∙ zero-add i

pub All-numbers : (P : ℕ → Type 0) (n : ℕ) → ((k : ℕ) → k < n → P k) → All P (range_with_len 0 n)
All-numbers P n each = λ k d lt.
    let few : k < n = omega (arith, length-range_with_len 0 n) in
    let is = get_or-numbers n k d few in
    rw is (each k few)

pub Contains-numbers : (n i : ℕ) → i < n → Contains (range_with_len 0 n) i
Contains-numbers n i lt = (i, omega (arith, length-range_with_len 0 n), get_or-numbers n i i lt)

pub find_number : (p : ℕ → Bool) (n i : ℕ) → i < n → p i ≡ true → ((k : ℕ) → k < i → p k ≡ false) → find p (range_with_len 0 n) ≡ Some i
find_number p n i lt pass fails =
    find_first p (range_with_len 0 n) i 0 i (omega (arith, length-range_with_len 0 n)) (get_or-numbers n i 0 lt) pass (λ k few.
    let is = get_or-numbers n k 0 (omega arith) in
    rw is (fails k few))

pub find_no_number : (p : ℕ → Bool) (n : ℕ) → ((k : ℕ) → k < n → p k ≡ false) → find p (range_with_len 0 n) ≡ None
find_no_number p n fails = find_none p (range_with_len 0 n) (All-numbers (λ k. p k ≡ false) n fails)

pub no_number_found : (p : ℕ → Bool) (n : ℕ) → find p (range_with_len 0 n) ≡ None → (k : ℕ) → k < n → p k ≡ false
no_number_found p n none = λ k lt.
    let is = get_or-numbers n k 0 lt in
    rw is at (none_found p (range_with_len 0 n) none k 0 (omega (arith, length-range_with_len 0 n)))

-- Sums over numbers, of which one changes.
use Rattle.std.proofs.Common.{◌≡◌, ◌≢◌, ℕ, zero, suc, inl, inr, ◌+◌, ◌<◌, ◌≤◌, Bool, true, false, cond, List, [], ◌∷◌, refl, sym, ap, ◌∙◌, arith, sum_by, filter}
use Rattle.std.specs.List.{range_with_len}
use Rattle.std.proofs.lemmas.Bool.{cases_Bool, cases_order}
use Rattle.std.proofs.lemmas.List.Sums.{sum_by-cons}

-- a sum over it
sum-next : (f : ℕ → ℕ) (a m : ℕ) → sum_by f (range_with_len a (suc m)) ≡ f a + sum_by f (range_with_len (a + 1) m)
sum-next f a m = sum_by-cons f a (range_with_len (a + 1) m)

pub sum-same : (f g : ℕ → ℕ) (a m : ℕ) → ((c : ℕ) → a ≤ c → c < a + m → f c ≡ g c) → sum_by f (range_with_len a m) ≡ sum_by g (range_with_len a m)
sum-same f g a zero same = refl
sum-same f g a (suc m) same =
    omega (arith, sum-next f a m, sum-next g a m, same a (omega arith) (omega arith), sum-same f g (a + 1) m (λ c from below. same c (omega arith) (omega arith)))

pub sum-filter : (f : ℕ → ℕ) (p : ℕ → Bool) (xs : List ℕ) → sum_by f (filter p xs) ≡ sum_by (λ c. cond (p c) (f c) 0) xs
sum-filter f p [] = refl
sum-filter f p (x ∷ xs) = elim (cases_Bool (p x)) [
  | inl pass ↦ omega (arith, sum_by-cons (λ c. cond (p c) (f c) 0) x xs, kept pass, sum-filter f p xs)
  | inr fail ↦ omega (arith, sum_by-cons (λ c. cond (p c) (f c) 0) x xs, left fail, sum-filter f p xs)
]
  where
    kept : p x ≡ true → sum_by f (filter p (x ∷ xs)) + 0 ≡ cond (p x) (f x) 0 + sum_by f (filter p xs)
    kept pass = rw pass (omega (arith, sum_by-cons f x (filter p xs)))

    left : p x ≡ false → sum_by f (filter p (x ∷ xs)) + 0 ≡ cond (p x) (f x) 0 + sum_by f (filter p xs)
    left fail = rw fail (omega arith)

-- where one of them is greater
pub sum-more : (f g : ℕ → ℕ) (c d a m : ℕ) → a ≤ c → c < a + m → ((x : ℕ) → x ≢ c → g x ≡ f x) → g c ≡ f c + d → sum_by g (range_with_len a m) ≡ sum_by f (range_with_len a m) + d
sum-more f g c d a zero from below same more = absurd (omega arith)
sum-more f g c d a (suc m) from below same more = elim (cases_order a c) [
  | inl here ↦
      let one : g a ≡ f a + d = ap g here ∙ (more ∙ ap (λ (x : ℕ). f x + d) (sym here)) in
      omega (arith, sum-next f a m, sum-next g a m, one, sum-same g f (a + 1) m (λ x after under. same x (λ is. absurd (omega arith))))
  | inr apart ↦ elim apart [
    | inl lt ↦ omega (arith, sum-next f a m, sum-next g a m, same a (λ is. absurd (omega arith)), sum-more f g c d (a + 1) m (omega arith) (omega arith) same more)
    | inr gt ↦ absurd (omega arith)
  ]
]

-- nothing
pub sum-none : (f : ℕ → ℕ) (a m : ℕ) → ((x : ℕ) → f x ≡ 0) → sum_by f (range_with_len a m) ≡ 0
sum-none f a zero none = refl
sum-none f a (suc m) none = omega (arith, sum-next f a m, none a, sum-none f (a + 1) m none)

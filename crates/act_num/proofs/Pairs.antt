-- The table of two digits, and whole parts of up to four digits.
use Rattle.std.proofs.Common.{◌≡◌, ℕ, zero, suc, ◌+◌, ◌-◌, ◌*◌, ◌/◌, ◌%◌, ◌^◌, ◌<◌, ◌≤◌, Bool, true, ◌&&◌, T, eqb, List, [], ◌∷◌, ◌++◌, length, get_or, take, set, decimal, refl, ap, ap₂, sym, ◌∙◌, inl, inr, arith, eq-zero-or-pos, eqb→eq, append_assoc, length-append, length-set}
use Rattle.std.proofs.lemmas.Fmt.{decimal_digit}
use Rattle.std.proofs.lemmas.List.{append-nil, take_more_set}
use Rattle.std.proofs.Math.Nat.{div-div-eq-div-mul, mul_comm, pow-suc}
use lib.Ieee.Fits.{and_l, and_r}
use Rattle.itoa.proofs.Decimal.{decimal_two, decimal_pair, decimal_four}
use Rattle.act_num.specs.declared.text.TheConstants.{PAIRS}
use Rattle.act_num.specs.Decimal.{fraction_text}
use Rattle.act_num.specs.Digits.{padded_digits}
use Rattle.act_num.specs.Number.{one}

abbrev are_pairs : ℕ → Bool
are_pairs zero = true
are_pairs (suc p) = (eqb (get_or PAIRS (p * 2) 0) (48 + p / 10) && eqb (get_or PAIRS (p * 2 + 1) 0) (48 + p % 10)) && are_pairs p

below : (n p : ℕ) → T (are_pairs n) → p < n → (get_or PAIRS (p * 2) 0 ≡ 48 + p / 10) × (get_or PAIRS (p * 2 + 1) 0 ≡ 48 + p % 10)
below zero p t h = absurd (omega arith)
below (suc n) p t h =
    elim (eq-zero-or-pos (n - p)) [
      | inl z ↦ let e : p ≡ n = omega arith in let a = and_l _ (are_pairs n) t in rw e (eqb→eq _ _ (and_l _ _ a), eqb→eq _ _ (and_r _ _ a))
      | inr g ↦ below n p (and_r _ (are_pairs n) t) (omega arith)
    ]

-- the two digits of a number below 100 stand at its place of the table
pub pairs_at : (p : ℕ) → p < 100 → (get_or PAIRS (p * 2) 0 ≡ 48 + p / 10) × (get_or PAIRS (p * 2 + 1) 0 ≡ 48 + p % 10)
pairs_at p h = below 100 p tt h

-- two numbers written one behind the other
pub two_put : (old : List ℕ) (at a b x y : ℕ) → at + 2 ≤ length old → x ≡ a → y ≡ b → take (at + 2) (set (set old at x) (at + 1) y) ≡ take at old ++ a ∷ b ∷ []
two_put old at a b x y h e f =
    let two : at + 2 ≡ at + 1 + 1 = omega arith in
    ap (λ n. take n (set (set old at x) (at + 1) y)) two
    ∙ take_more_set (set old at x) (at + 1) y (omega (arith, length-set old at x))
    ∙ ap (λ xs. xs ++ y ∷ []) (take_more_set old at x (omega arith))
    ∙ append_assoc (take at old) (x ∷ []) (y ∷ [])
    ∙ ap₂ (λ a b. take at old ++ a ∷ b ∷ []) e f

-- numbers of so many digits have no leading zeros
pub one_digit : (n : ℕ) → n < 10 → padded_digits 1 n ≡ decimal n
one_digit n h =
    let e : n % 10 ≡ n = omega arith in
    ap (λ d. (48 + d) ∷ []) e ∙ sym (decimal_digit n h)

pub two_digits : (n : ℕ) → 10 ≤ n → n < 100 → padded_digits 2 n ≡ decimal n
two_digits n lo hi =
    let e : n / 10 % 10 ≡ n / 10 = omega arith in
    ap (λ d. (48 + d) ∷ (48 + n % 10) ∷ []) e ∙ sym (decimal_two n lo hi)

pub three_digits : (n : ℕ) → 100 ≤ n → n < 1000 → padded_digits 1 (n / 100) ++ padded_digits 2 (n % 100) ≡ decimal n
three_digits n lo hi =
    let e : n % 100 / 10 % 10 ≡ n % 100 / 10 = omega arith in
    ap₂ (λ xs d. xs ++ (48 + d) ∷ (48 + n % 100 % 10) ∷ []) (one_digit (n / 100) (omega arith)) e
    ∙ sym (decimal_pair n lo (omega arith))

pub four_digits : (n : ℕ) → 1000 ≤ n → n < 10000 → padded_digits 4 n ≡ decimal n
four_digits n lo hi =
    let a : n / 10 / 10 / 10 % 10 ≡ n / 100 / 10 % 10 = omega arith in
    let b : n / 10 / 10 % 10 ≡ n / 100 % 10 = omega arith in
    let c : n / 10 % 10 ≡ n % 100 / 10 = omega arith in
    let d : n % 10 ≡ n % 100 % 10 = omega arith in
    rw (a, b, c, d) (ap (λ xs. xs ++ (48 + n % 100 / 10) ∷ (48 + n % 100 % 10) ∷ []) (two_digits (n / 100) (omega arith) (omega arith)) ∙ sym (decimal_pair n (omega arith) (omega arith)))

-- digits in two parts
digits_split : (j k n : ℕ) → padded_digits k (n / 10 ^ j) ++ padded_digits j n ≡ padded_digits (j + k) n
digits_split zero k n =
    let e : n / 10 ^ 0 ≡ n = omega arith in
    let more : k ≡ 0 + k = omega arith in
    append-nil _ ∙ ap (padded_digits k) e ∙ ap (λ (m : ℕ). padded_digits m n) more
digits_split (suc j) k n =
    let e : n / 10 ^ suc j ≡ n / 10 / 10 ^ j = ap (λ (m : ℕ). n / m) (pow-suc 10 j ∙ mul_comm (10 ^ j) 10) ∙ sym (div-div-eq-div-mul n 10 (10 ^ j)) in
    let more : suc (j + k) ≡ suc j + k = omega arith in
    ap (λ (m : ℕ). padded_digits k m ++ (padded_digits j (n / 10) ++ (48 + n % 10) ∷ [])) e
    ∙ sym (append_assoc (padded_digits k (n / 10 / 10 ^ j)) (padded_digits j (n / 10)) ((48 + n % 10) ∷ []))
    ∙ ap (λ xs. xs ++ (48 + n % 10) ∷ []) (digits_split j k (n / 10))
    ∙ ap (λ (m : ℕ). padded_digits m n) more

last_four : (n : ℕ) → padded_digits 4 (n % 10000) ≡ padded_digits 4 n
last_four n =
    let a : n % 10000 / 10 / 10 / 10 % 10 ≡ n / 10 / 10 / 10 % 10 = omega arith in
    let b : n % 10000 / 10 / 10 % 10 ≡ n / 10 / 10 % 10 = omega arith in
    let c : n % 10000 / 10 % 10 ≡ n / 10 % 10 = omega arith in
    let d : n % 10000 % 10 ≡ n % 10 = omega arith in
    rw (a, b, c, d) refl

-- nine digits are a digit, four and four
nine_digits : (n : ℕ) → (padded_digits 1 (n / 10000 / 10000) ++ padded_digits 4 (n / 10000 % 10000)) ++ padded_digits 4 (n % 10000) ≡ fraction_text n
unfolding fraction_text
nine_digits n =
    ap₂ (λ xs ys. (padded_digits 1 (n / 10000 / 10000) ++ xs) ++ ys) (last_four (n / 10000)) (last_four n)
    ∙ ap (λ xs. xs ++ padded_digits 4 n) (digits_split 4 1 (n / 10000))
    ∙ digits_split 4 5 n

-- a point and nine digits, one behind the other
pub point_and_digits : (front : List ℕ) (n : ℕ) → n < one → (((front ++ 46 ∷ []) ++ padded_digits 1 (n / 10000 / 10000)) ++ padded_digits 4 (n / 10000 % 10000)) ++ padded_digits 4 (n % 10000) ≡ front ++ 46 ∷ [] ++ fraction_text n
point_and_digits front n h = simp append_assoc (ap (λ xs. front ++ 46 ∷ xs) (simp append_assoc at (nine_digits n)))

-- four more digits behind a number
pub four_more : (n : ℕ) → 10000 ≤ n → n < 2 ^ 64 → decimal (n / 10000) ++ padded_digits 4 (n % 10000) ≡ decimal n
four_more n lo hi =
    let a : n % 10000 / 10 / 10 / 10 % 10 ≡ n % 10000 / 100 / 10 = omega arith in
    let b : n % 10000 / 10 / 10 % 10 ≡ n % 10000 / 100 % 10 = omega arith in
    let c : n % 10000 / 10 % 10 ≡ n % 10000 % 100 / 10 = omega arith in
    let d : n % 10000 % 10 ≡ n % 10000 % 100 % 10 = omega arith in
    rw (a, b, c, d) (sym (decimal_four n lo hi))

pub length-four_more : (n : ℕ) → 10000 ≤ n → n < 2 ^ 64 → length (decimal (n / 10000)) + 4 ≡ length (decimal n)
length-four_more n lo hi = sym (length-append (decimal (n / 10000)) (padded_digits 4 (n % 10000))) ∙ ap length (four_more n lo hi)

-- Numbers of a range.
use Rattle.std.proofs.Common.{◌≡◌, ℕ, zero, suc, inl, inr, ◌+◌, ◌-◌, ◌<◌, ◌≤◌, ◌⊎◌, ◌≢◌, Bool, true, false, refl, sym, ap, ◌∙◌, arith, nat_le, nat_lt, ◌&&◌, eq-eqb, ◌==◌}
use Rattle.std.specs.List.{range_with_len}
use Rattle.std.proofs.lemmas.Bool.{cases_Bool, eqb-true, leb-false, leb-true, ltb-false, ltb-true}
use Rattle.act_profile.specs.Reads.{is_in}
use Rattle.act_history.proofs.Reaching.{either, left-so, right-so}

-- a number is one of a range, or isn't
differ : (a c : ℕ) → (a == c) ≡ false → a ≢ c
differ a c other = λ is. let same = eq-eqb a c is in absurd (cc)

pub in-range : (a m c : ℕ) → a ≤ c → c < a + m → is_in (range_with_len a m) c ≡ true
in-range a zero c from below = absurd (omega arith)
in-range a (suc m) c from below = elim (cases_Bool (a == c)) [
  | inl here ↦ left-so (a == c) _ here
  | inr other ↦ right-so (a == c) _ (in-range (a + 1) m c (omega (arith, differ a c other)) (omega arith))
]

pub not-in-range : (a m c : ℕ) → is_in (range_with_len a m) c ≡ true → (a ≤ c) × (c < a + m)
not-in-range a zero c is = absurd (cc)
not-in-range a (suc m) c is = elim (either (a == c) _ is) [
  | inl here ↦ let same : a ≡ c = eqb-true a c here in (omega arith, omega arith)
  | inr later ↦ let rest = not-in-range (a + 1) m c later in (omega (arith, rest.0), omega (arith, rest.1))
]

out-of-range : (a m c : ℕ) → (c < a) ⊎ (a + m ≤ c) → is_in (range_with_len a m) c ≡ false
out-of-range a m c out = elim (cases_Bool (is_in (range_with_len a m) c)) [
  | inl is ↦ let there = not-in-range a m c is in elim out [ inl before ↦ absurd (omega (arith, there.0)) | inr behind ↦ absurd (omega (arith, there.1)) ]
  | inr not ↦ not
]

-- a number is tested to be one of a range
pub between : (first end c : ℕ) → is_in (range_with_len first (end - first)) c ≡ (nat_le first c && nat_lt c end)
between first end c = by (nat_le first c) (nat_lt c end) refl refl
  where
    and-so : (low high : Bool) → nat_le first c ≡ low → nat_lt c end ≡ high → (nat_le first c && nat_lt c end) ≡ (low && high)
    and-so low high le lt = ap (λ (a : Bool). a && nat_lt c end) le ∙ ap (λ (b : Bool). low && b) lt

    by : (low high : Bool) → nat_le first c ≡ low → nat_lt c end ≡ high → is_in (range_with_len first (end - first)) c ≡ (nat_le first c && nat_lt c end)
    by true true le lt =
        let from = leb-true first c le in
        let under = ltb-true c end lt in
        in-range first (end - first) c from (omega arith) ∙ sym (and-so true true le lt)
    by true false le lt =
        let from = leb-true first c le in
        let under = ltb-false c end lt in
        out-of-range first (end - first) c (inr (omega arith)) ∙ sym (and-so true false le lt)
    by false high le lt =
        let under = leb-false first c le in
        out-of-range first (end - first) c (inl (omega arith)) ∙ sym (and-so false high le lt)

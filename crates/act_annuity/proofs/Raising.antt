-- The divisor, where no product is below 0.
use Rattle.std.proofs.Common.{◌≡◌, List, [], ◌∷◌, ℤ, pos, int_lt, ◌+ℤ◌, ◌≤ℤ◌, ◌<ℤ◌, unsigned_abs, Option, Some, option_and_then, inl, inr, refl, sym, ap, subst, ◌∙◌, arith}
use Rattle.std.proofs.lemmas.Bool.{cases_Bool}
use Rattle.std.proofs.lemmas.Int.{ints}
use Rattle.std.proofs.lemmas.Option.{option_and_then_some, same_Some}
use Rattle.act_num.specs.Factor.{factor_one}
use Rattle.act_num.specs.Number.{InRange, number_in_range}
use Rattle.act_annuity.specs.Passes.{changed, first_and_divisor, first_and_passed, pass_over}
use Rattle.act_annuity.specs.declared.annuity.Change.TheVariants.{Raise}
use Rattle.act_annuity.specs.Payment.{divisor_of, positive, sum_from}
use Rattle.act_annuity.proofs.Divisors.{in_range_some, positive_some, range_some, total}
use Rattle.act_annuity.proofs.Passing.{Found, found}
use Rattle.act_annuity.proofs.Payments.{not_negative}

-- no product is below 0
NoneBelow : List ℤ → Type 0
NoneBelow [] = Unit {0}
NoneBelow (q ∷ qs) = (pos 0 ≤ℤ q) × NoneBelow qs

total_above : (qs : List ℤ) → NoneBelow qs → pos 0 ≤ℤ total qs
unfolding NoneBelow total
total_above [] h = omega (arith, ints)
total_above (q ∷ qs) h = let rest = total_above qs h.1 in omega (arith, ints, h.0)

-- each sum on the way is in range where the last is
sums : (s : ℤ) (qs : List ℤ) → NoneBelow qs → pos 0 ≤ℤ s → InRange (s +ℤ total qs) → sum_from s qs ≡ Some (s +ℤ total qs)
unfolding NoneBelow total sum_from
sums s [] h above within = let same : s ≡ s +ℤ pos 0 = omega (arith, ints) in ap Some same
sums s (q ∷ qs) h above within =
    let rest = total_above qs h.1 in
    let first = h.0 in
    let here : InRange (s +ℤ q) = omega (arith, ints) in
    let next : pos 0 ≤ℤ (s +ℤ q) = omega (arith, ints) in
    let whole : (s +ℤ q) +ℤ total qs ≡ s +ℤ (q +ℤ total qs) = omega (arith, ints) in
    rw (in_range_some (s +ℤ q) here) (sums (s +ℤ q) qs h.1 next (subst InRange (sym whole) within) ∙ ap Some whole)

-- what a raising step found
raised_some : (z q y : ℤ) → changed Raise z q ≡ Some y → (pos 0 ≤ℤ q) × (z +ℤ q ≡ y) × InRange y
raised_some z q y e =
    elim (cases_Bool (int_lt q (pos 0))) [
      | inl below ↦ let none = rw below at e in absurd (cc)
      | inr above ↦
          let some : number_in_range (z +ℤ q) ≡ Some y = rw above at e in
          let r = range_some (z +ℤ q) y some in
          (omega (arith, ints), r.0, subst InRange r.0 r.1)
    ]

-- what a raising pass found
raised_is : (s d : ℤ) (qs : List ℤ) → InRange s → pass_over Raise s qs ≡ Some d → NoneBelow qs × (s +ℤ total qs ≡ d) × InRange d
unfolding NoneBelow total pass_over
raised_is s d [] within e =
    let same = same_Some s d e in
    let whole : s +ℤ pos 0 ≡ d = omega (arith, ints) in
    (tt, whole, subst InRange same within)
raised_is s d (q ∷ qs) within e =
    option_and_then_some (λ z. changed Raise z q) (pass_over Raise s qs) d e
    (λ z before last.
    let r = raised_some z q d last in
    let more = raised_is s z qs within before in
    let whole : s +ℤ (q +ℤ total qs) ≡ d = let a = more.1 in let b = r.1 in omega (arith, ints) in
    ((r.0, more.0), whole, r.2))

module _ (products : Option (List ℤ)) (product : Option ℤ) (sum : ℤ) (passed : option_and_then (first_and_passed Raise (pos factor_one)) products ≡ Some (product, sum)) where
  pass : Found Raise (pos factor_one) products product sum
  pass = found Raise (pos factor_one) products product sum passed

  pub raised_above : pos 0 <ℤ sum
  raised_above =
      let is = raised_is (pos factor_one) sum pass.qs (omega arith) pass.pass in
      let more = total_above pass.qs is.0 in
      let whole = is.1 in
      omega (arith, ints)

  pub raised_divisor : option_and_then first_and_divisor products ≡ Some (product, sum)
  raised_divisor =
      let is = raised_is (pos factor_one) sum pass.qs (omega arith) pass.pass in
      let added : sum_from (pos factor_one) pass.qs ≡ Some sum =
      sums (pos factor_one) pass.qs is.0 (omega (arith, ints)) (subst InRange (sym is.1) is.2) ∙ ap Some is.1 in
      let divisor : divisor_of pass.qs ≡ Some (unsigned_abs sum) = ap (option_and_then positive) added ∙ positive_some sum raised_above in
      rw (pass.are, divisor, pass.first, not_negative sum raised_above) refl

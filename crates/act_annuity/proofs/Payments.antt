-- The payment, by the first product and the divisor that two passes find.
use Rattle.std.proofs.Common.{◌≡◌, ℕ, ◌≤◌, List, [], ◌∷◌, ℤ, pos, negsuc, ◌*ℤ◌, ◌<ℤ◌, ◌≤ℤ◌, unsigned_abs, Option, Some, None, option_map, option_and_then, refl, ap, ◌∙◌, arith}
use Rattle.std.proofs.lemmas.Int.{ints}
use Rattle.std.proofs.lemmas.Option.{same_Some, some_pair_parts}
use Rattle.act_num.specs.Factor.{factor_one}
use Rattle.act_num.specs.Number.{InRange, add_of, number_in_range, rnd}
use Rattle.act_date.specs.Fraction.{Fraction}
use Rattle.act_annuity.specs.Passes.{first_and_divisor, first_and_passed, pass_over}
use Rattle.act_annuity.specs.declared.annuity.Change.TheVariants.{Add, TakeAway}
use Rattle.act_annuity.specs.Payment.{annuity_payment, divisor_of, payment_by, products_at, sum_from}
use Rattle.act_annuity.proofs.Divisors.{added_is, divisor_below, divisor_broken, divisor_whole, in_range_some, range_some}
use Rattle.act_annuity.proofs.Passing.{Found, paired, unpaired}

-- ---- the divisor of two passes

added_some : (qs : List ℤ) → ¬ (first_and_passed Add (pos factor_one) qs ≡ None)
added_some qs e = let none = unpaired qs (pass_over Add (pos factor_one) qs) e in let some = added_is qs in cc

pub no_products : (products : Option (List ℤ)) → option_and_then (first_and_passed Add (pos factor_one)) products ≡ None → option_and_then first_and_divisor products ≡ None
no_products None e = refl
no_products (Some qs) e = absurd (added_some qs e)

pub not_negative : (z : ℤ) → pos 0 <ℤ z → pos (unsigned_abs z) ≡ z
not_negative (pos n) h = refl
not_negative (negsuc n) h = absurd (omega (arith, ints))

module _ (products : Option (List ℤ)) (product : Option ℤ) (sum : ℤ) (found : Found Add (pos factor_one) products product sum) where
  pub not_above : sum ≤ℤ pos 0 → option_and_then first_and_divisor products ≡ None
  not_above low = rw (found.are, divisor_below found.qs sum found.pass low) refl

  pub nothing_left : option_and_then (first_and_passed TakeAway sum) products ≡ None → option_and_then first_and_divisor products ≡ None
  nothing_left e =
      let none = unpaired found.qs (pass_over TakeAway sum found.qs) (rw found.are at e) in
      rw (found.are, divisor_broken found.qs sum found.pass none) refl

  pub something_left : (first : Option ℤ) (rest : ℤ) → option_and_then (first_and_passed TakeAway sum) products ≡ Some (first, rest) → InRange sum → pos 0 <ℤ sum → option_and_then first_and_divisor products ≡ Some (product, sum)
  something_left first rest e in_range above =
      let some = paired found.qs (pass_over TakeAway sum found.qs) first rest (rw found.are at e) in
      rw (found.are, divisor_whole found.qs sum found.pass rest some.1 in_range above, found.first, not_negative sum above) refl

-- ---- the payment

undivided : (first : Option ℤ) (o : Option ℕ) → option_map {U = Option ℤ × ℤ} (λ d. (first, pos d)) o ≡ None → o ≡ None
undivided first None e = refl
undivided first (Some d) e = absurd (cc)

divided : (first product : Option ℤ) (divisor : ℤ) (o : Option ℕ) → option_map {U = Option ℤ × ℤ} (λ d. (first, pos d)) o ≡ Some (product, divisor) → (first ≡ product) × (o ≡ Some (unsigned_abs divisor))
divided first product divisor None e = absurd (cc)
divided first product divisor (Some d) e =
    let p = some_pair_parts first product (pos d) divisor e in (p.0, ap (λ z. Some (unsigned_abs z)) p.1)

without_divisor : (o : Option ℤ) → option_and_then (λ p. option_map (rnd p) None) o ≡ None
without_divisor None = refl
without_divisor (Some p) = refl

with_divisor : (d : ℕ) (o : Option ℤ) → option_and_then (λ p. option_map (rnd p) (Some d)) o ≡ option_map (λ p. rnd p d) o
with_divisor d None = refl
with_divisor d (Some p) = refl

undefined_by : (owed : ℤ) (qs : List ℤ) → first_and_divisor qs ≡ None → payment_by owed qs ≡ None
unfolding sum_from
undefined_by owed [] e = absurd (cc)
undefined_by owed (q ∷ qs) e =
    let none = undivided (Some q) (divisor_of (q ∷ qs)) e in
    rw none (without_divisor (number_in_range (owed *ℤ q)))

whole_by : (owed : ℤ) (qs : List ℤ) (divisor : ℤ) → first_and_divisor qs ≡ Some (None, divisor) → payment_by owed qs ≡ Some owed
whole_by owed [] divisor e = refl
whole_by owed (q ∷ qs) divisor e =
    let first = (divided (Some q) None divisor (divisor_of (q ∷ qs)) e).0 in absurd (cc)

divided_by : (owed q : ℤ) (qs : List ℤ) (divisor : ℤ) → first_and_divisor qs ≡ Some (Some q, divisor) → payment_by owed qs ≡ option_map (λ p. rnd p (unsigned_abs divisor)) (number_in_range (owed *ℤ q))
divided_by owed q [] divisor e =
    let first = (divided None (Some q) divisor (divisor_of []) e).0 in absurd (cc)
divided_by owed q (q' ∷ qs) divisor e =
    let parts = divided (Some q') (Some q) divisor (divisor_of (q' ∷ qs)) e in
    rw (parts.1, same_Some q' q parts.0) (with_divisor (unsigned_abs divisor) (number_in_range (owed *ℤ q)))

-- the same for the products of the periods
module _ (owed : ℤ) where
  undefined_at : (products : Option (List ℤ)) → option_and_then first_and_divisor products ≡ None → option_and_then (payment_by owed) products ≡ None
  undefined_at None e = refl
  undefined_at (Some qs) e = undefined_by owed qs e

  whole_at : (products : Option (List ℤ)) (divisor : ℤ) → option_and_then first_and_divisor products ≡ Some (None, divisor) → option_and_then (payment_by owed) products ≡ Some owed
  whole_at None divisor e = absurd (cc)
  whole_at (Some qs) divisor e = whole_by owed qs divisor e

  divided_at : (q : ℤ) (products : Option (List ℤ)) (divisor : ℤ) → option_and_then first_and_divisor products ≡ Some (Some q, divisor) → option_and_then (payment_by owed) products ≡ option_map (λ p. rnd p (unsigned_abs divisor)) (number_in_range (owed *ℤ q))
  divided_at q None divisor e = absurd (cc)
  divided_at q (Some qs) divisor e = divided_by owed q qs divisor e

module _ (n a r : ℤ) (periods : List Fraction) where
  pub payment_none : add_of n a ≡ None → annuity_payment n a r periods ≡ None
  unfolding annuity_payment
  payment_none e = rw e refl

  pub payment_undefined : (owed : ℤ) → add_of n a ≡ Some owed → option_and_then first_and_divisor (products_at r periods) ≡ None → annuity_payment n a r periods ≡ None
  unfolding annuity_payment
  payment_undefined owed e f = rw e (undefined_at owed (products_at r periods) f)

  pub payment_whole : (owed divisor : ℤ) → add_of n a ≡ Some owed → option_and_then first_and_divisor (products_at r periods) ≡ Some (None, divisor) → annuity_payment n a r periods ≡ Some owed
  unfolding annuity_payment
  payment_whole owed divisor e f = rw e (whole_at owed (products_at r periods) divisor f)

  pub payment_divided : (owed q divisor : ℤ) → add_of n a ≡ Some owed → option_and_then first_and_divisor (products_at r periods) ≡ Some (Some q, divisor) → annuity_payment n a r periods ≡ option_map (λ p. rnd p (unsigned_abs divisor)) (number_in_range (owed *ℤ q))
  unfolding annuity_payment
  payment_divided owed q divisor e f = rw e (divided_at owed q (products_at r periods) divisor f)

-- the quotient, where it is whole
pub quotient_is : (owed product divisor p z : ℤ) → number_in_range (owed *ℤ product) ≡ Some p → z ≡ rnd p (unsigned_abs divisor) → unsigned_abs z ≤ unsigned_abs p → number_in_range z ≡ option_map (λ p. rnd p (unsigned_abs divisor)) (number_in_range (owed *ℤ product))
quotient_is owed product divisor p z some is bound =
    let in_range = (range_some (owed *ℤ product) p some).1 in
    let same = (range_some (owed *ℤ product) p some).0 in
    in_range_some z (omega (arith, ints)) ∙ ap Some is ∙ rw some refl

-- The divisor, by a sum that wraps around and the rest that the products leave of it.
use Rattle.std.proofs.Common.{◌≡◌, zero, suc, List, [], ◌∷◌, ℤ, pos, negsuc, neg_ℤ, ◌+ℤ◌, ◌-ℤ◌, ◌<ℤ◌, ◌≤ℤ◌, unsigned_abs, Option, Some, None, option_and_then, refl, sym, ap, subst, ◌∙◌, arith}
use Rattle.std.specs.Int.{w128, int_wrap}
use Rattle.std.proofs.lemmas.Bool.Decides.{nat_tests}
use Rattle.std.proofs.lemmas.Int.{fits_signed_from_abs, int_wrap-add_left, int_wrap_fits, ints}
use Rattle.std.proofs.lemmas.Option.{cond_some, option_and_then_some, same_Some}
use Rattle.act_num.specs.Factor.{factor_one}
use Rattle.act_num.specs.Number.{InRange, number_in_range}
use Rattle.act_annuity.specs.Passes.{changed, pass_over}
use Rattle.act_annuity.specs.declared.annuity.Change.TheVariants.{Add, TakeAway}
use Rattle.act_annuity.specs.Payment.{divisor_of, positive, sum_from}

unfoldable pub total : List ℤ → ℤ
total [] = pos 0
total (q ∷ qs) = q +ℤ total qs

pub range_some : (z y : ℤ) → number_in_range z ≡ Some y → (z ≡ y) × InRange z
range_some z y e = let p = cond_some _ z y e in (p.1, grind (arith, nat_tests))

pub in_range_some : (z : ℤ) → InRange z → number_in_range z ≡ Some z
in_range_some z h = grind (arith, nat_tests)

unwrapped : (z : ℤ) → InRange z → int_wrap w128 z ≡ z
unwrapped z h = int_wrap_fits w128 z (fits_signed_from_abs w128 z (omega (arith, ints)))

-- ---- sums in order and from the last product back

sum_is : (s d : ℤ) (qs : List ℤ) → sum_from s qs ≡ Some d → InRange s → (d ≡ s +ℤ total qs) × InRange d
unfolding sum_from total
sum_is s d [] e h = let same = same_Some s d e in (omega (arith, ints), subst InRange same h)
sum_is s d (q ∷ qs) e h =
    option_and_then_some (λ n. sum_from n qs) (number_in_range (s +ℤ q)) d e
    (λ n found rest.
    let r = range_some (s +ℤ q) n found in
    let more = sum_is n d qs rest (subst InRange r.0 r.1) in
    (omega (arith, ints), more.1))

taken_is : (d s : ℤ) (qs : List ℤ) → pass_over TakeAway d qs ≡ Some s → InRange d → (s +ℤ total qs ≡ d) × InRange s
unfolding pass_over total
taken_is d s [] e h = let same = same_Some d s e in (omega (arith, ints), subst InRange same h)
taken_is d s (q ∷ qs) e h =
    option_and_then_some (λ z. changed TakeAway z q) (pass_over TakeAway d qs) s e
    (λ z before last.
    let r = range_some (z -ℤ q) s last in
    let more = taken_is d z qs before h in
    (omega (arith, ints), subst InRange r.0 r.1))

-- each way undoes the other
forth : (d s : ℤ) (qs : List ℤ) → pass_over TakeAway d qs ≡ Some s → InRange d → sum_from s qs ≡ Some d
unfolding pass_over sum_from
forth d s [] e h = ap Some (sym (same_Some d s e))
forth d s (q ∷ qs) e h =
    option_and_then_some (λ z. changed TakeAway z q) (pass_over TakeAway d qs) s e
    (λ z before last.
    let r = range_some (z -ℤ q) s last in
    let next : s +ℤ q ≡ z = omega (arith, ints) in
    rw (next, in_range_some z (taken_is d z qs before h).1) (forth d z qs before h))

back : (s d : ℤ) (qs : List ℤ) → sum_from s qs ≡ Some d → InRange s → pass_over TakeAway d qs ≡ Some s
unfolding pass_over sum_from
back s d [] e h = ap Some (sym (same_Some s d e))
back s d (q ∷ qs) e h =
    option_and_then_some (λ n. sum_from n qs) (number_in_range (s +ℤ q)) d e
    (λ n found rest.
    let r = range_some (s +ℤ q) n found in
    let before : n -ℤ q ≡ s = omega (arith, ints) in
    rw (back n d qs rest (subst InRange r.0 r.1), before) (in_range_some s h))

pub added_is : (qs : List ℤ) → pass_over Add (pos factor_one) qs ≡ Some (int_wrap w128 (pos factor_one +ℤ total qs))
unfolding pass_over total
added_is [] = ap Some (sym (unwrapped (pos factor_one) (omega arith)))
added_is (q ∷ qs) =
    let whole : pos factor_one +ℤ total qs +ℤ q ≡ pos factor_one +ℤ (q +ℤ total qs) = omega (arith, ints) in
    ap (option_and_then (λ z. changed Add z q)) (added_is qs) ∙ ap Some (int_wrap-add_left w128 (pos factor_one +ℤ total qs) q ∙ ap (int_wrap w128) whole)

-- ---- the divisor

positive_none : (d : ℤ) → d ≤ℤ pos 0 → positive d ≡ None
positive_none (pos zero) h = refl
positive_none (pos (suc n)) h = absurd (omega (arith, ints))
positive_none (negsuc n) h = refl

pub positive_some : (d : ℤ) → pos 0 <ℤ d → positive d ≡ Some (unsigned_abs d)
positive_some (pos zero) h = absurd (omega (arith, ints))
positive_some (pos (suc n)) h = refl
positive_some (negsuc n) h = absurd (omega (arith, ints))

module _ (qs : List ℤ) (sum : ℤ) (is : pass_over Add (pos factor_one) qs ≡ Some sum) where
  sum_wraps : sum ≡ int_wrap w128 (pos factor_one +ℤ total qs)
  sum_wraps = same_Some _ _ (sym is ∙ added_is qs)

  -- where the products add up in range, they do so to the sum
  of_sum : (d : ℤ) → sum_from (pos factor_one) qs ≡ Some d → d ≡ sum
  of_sum d e =
      let in_order = sum_is (pos factor_one) d qs e (omega arith) in
      sym (unwrapped d in_order.1) ∙ ap (int_wrap w128) in_order.0 ∙ sym sum_wraps

  divisor_by : (o : Option ℤ) → sum_from (pos factor_one) qs ≡ o → ((d : ℤ) → o ≡ Some d → positive d ≡ None) → option_and_then positive o ≡ None
  divisor_by None e h = refl
  divisor_by (Some d) e h = h d refl

  pub divisor_below : sum ≤ℤ pos 0 → divisor_of qs ≡ None
  divisor_below low =
      divisor_by (sum_from (pos factor_one) qs) refl (λ d e. positive_none d (rw (of_sum d e) low))

  pub divisor_broken : pass_over TakeAway sum qs ≡ None → divisor_of qs ≡ None
  divisor_broken none =
      divisor_by (sum_from (pos factor_one) qs) refl (λ d e. let some = rw (of_sum d e) at (back (pos factor_one) d qs e (omega arith)) in absurd (cc))

  -- what is left is the factor 1
  rest_is_one : (rest : ℤ) → pass_over TakeAway sum qs ≡ Some rest → InRange sum → rest ≡ pos factor_one
  rest_is_one rest e h =
      let taken = taken_is sum rest qs e h in
      let left : rest ≡ sum +ℤ neg_ℤ (total qs) = omega (arith, ints) in
      let one : pos factor_one +ℤ total qs +ℤ neg_ℤ (total qs) ≡ pos factor_one = omega (arith, ints) in
      sym (unwrapped rest taken.1)
      ∙ ap (int_wrap w128) (left ∙ ap (λ z. z +ℤ neg_ℤ (total qs)) sum_wraps)
      ∙ int_wrap-add_left w128 (pos factor_one +ℤ total qs) (neg_ℤ (total qs))
      ∙ ap (int_wrap w128) one
      ∙ unwrapped (pos factor_one) (omega arith)

  pub divisor_whole : (rest : ℤ) → pass_over TakeAway sum qs ≡ Some rest → InRange sum → pos 0 <ℤ sum → divisor_of qs ≡ Some (unsigned_abs sum)
  divisor_whole rest e h above =
      let whole = rw (rest_is_one rest e h) at (forth sum rest qs e h) in
      ap (option_and_then positive) whole ∙ positive_some sum above

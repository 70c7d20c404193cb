-- Runs of children that agree before a day, and what is read of them.
pub use Rattle.act_causality.specs.Causality.{ChildAgrees, ChildrenAgree, is_row_before}
use Rattle.std.proofs.Common.{◌≡◌, ℕ, zero, suc, true, false, ℤ, int_lt, int_le, List, [], ◌∷◌, map, Option, Some, None, inl, inr, refl, sym, ◌∙◌, ap, arith}
use Rattle.std.specs.List.{filter, last_or, slice_get}
use Rattle.std.specs.Prelude.{option_and_then}
use Rattle.std.proofs.lemmas.Bool.{cases_Bool}
use Rattle.std.proofs.lemmas.Int.{ints}
use Rattle.act_model.specs.Run.{Stream}
use Rattle.act_model.specs.Terms.{Guarantee}
use Rattle.act_model.specs.declared.choice.GuaranteedExposure.{GuaranteedExposure}
use Rattle.act_model.specs.declared.choice.GuaranteedExposure.TheVariants as exposure
use Rattle.act_model.specs.declared.run.Row.{Row}
use Rattle.act_model.specs.declared.state.State.{State}
use Rattle.act_model.specs.declared.terms.Covered.{Covered}
use Rattle.act_model.specs.declared.terms.Kind.{Kind}
use Rattle.act_model.specs.declared.terms.Kind.TheVariants as kind
use Rattle.act_profile.specs.Credit.{covered_part, exposure_by, state_on, state_or_start, sum_of, total_exposure}
use Rattle.act_profile.specs.Formula.{times}
use Rattle.act_profile.specs.Legs.{child, no_rows, row_at}
use Rattle.act_causality.specs.Causality.{RunsAgreeBefore}
use Rattle.act_causality.proofs.KindSteps.{SameCover}
use Rattle.act_causality.proofs.Lists.{IsCut, Late, filter-within, late-none}
use Rattle.act_causality.proofs.Runs.{runs-same}

pub none-agree : (day : ℤ) → ChildAgrees day no_rows no_rows
none-agree day = record { runs = runs-same day no_rows; cut = tt; cut2 = tt }

pub child-agree : (day : ℤ) (children others : List Stream) (n : ℕ) → ChildrenAgree day children others → ChildAgrees day (child children n) (child others n)
child-agree day [] [] n agree = none-agree day
child-agree day [] (y ∷ ys) n agree = absurd agree
child-agree day (x ∷ xs) [] n agree = absurd agree
child-agree day (x ∷ xs) (y ∷ ys) zero agree = agree.0
child-agree day (x ∷ xs) (y ∷ ys) (suc n) agree = child-agree day xs ys n agree.1

-- ---- exposures

until_before : (day t : ℤ) → int_lt t day ≡ true → (row : Row) → int_le row.day t ≡ true → is_row_before day row ≡ true
until_before day t before row until = grind (arith, ints)

-- the same rows dated not after a day before the other
pub rows-until : (day t : ℤ) → int_lt t day ≡ true → (one other : Stream) → RunsAgreeBefore day one other → filter (λ (row : Row). int_le row.day t) one.rows ≡ filter (λ (row : Row). int_le row.day t) other.rows
rows-until day t before one other agree =
    sym (filter-within (λ (row : Row). int_le row.day t) (is_row_before day) (until_before day t before) one.rows)
    ∙ ap (filter (λ (row : Row). int_le row.day t)) agree.rows
    ∙ filter-within (λ (row : Row). int_le row.day t) (is_row_before day) (until_before day t before) other.rows

module _ (day t : ℤ) (before : int_lt t day ≡ true) (children others : List Stream) (agree : ChildrenAgree day children others) where
  state-agree : (covered : Covered) → state_on children t covered ≡ state_on others t covered
  state-agree covered =
      ap (λ (rows : List Row). state_or_start (last_or None (map (λ row. row.state) rows)) covered.start)
      (rows-until day t before (child children covered.child) (child others covered.child) (child-agree day children others covered.child agree).runs)

  amounts-agree : (what : GuaranteedExposure) (covered : List Covered) →
      map (λ c. option_and_then (exposure_by what c t) (state_on children t c)) covered ≡ map (λ c. option_and_then (exposure_by what c t) (state_on others t c)) covered
  amounts-agree what [] = refl
  amounts-agree what (c ∷ covered) =
      ap (λ (s : Option State). option_and_then (exposure_by what c t) s ∷ map (λ d. option_and_then (exposure_by what d t) (state_on children t d)) covered) (state-agree c)
      ∙ ap (λ (rest : List (Option ℤ)). option_and_then (exposure_by what c t) (state_on others t c) ∷ rest) (amounts-agree what covered)

  exposure-agree : (what : GuaranteedExposure) (guarantee : Guarantee) (values : List ℤ) → total_exposure what guarantee children t values ≡ total_exposure what guarantee others t values
  exposure-agree exposure.MV guarantee values = refl
  exposure-agree what guarantee values = ap sum_of (amounts-agree what guarantee.covered)

  part-agree : (guarantee : Guarantee) (values : List ℤ) → covered_part guarantee children t values ≡ covered_part guarantee others t values
  part-agree guarantee values = ap (times (Some guarantee.coverage_of_credit_enhancement)) (exposure-agree guarantee.guaranteed_exposure guarantee values)

  -- the covered part of a guarantee is the same on a day before
  pub cover-agree : (contract : Kind) → SameCover contract children others t
  cover-agree (kind.CEG ceg) = part-agree ceg
  cover-agree (kind.CEC cec) = part-agree cec.guarantee
  cover-agree contract = tt

-- ---- rows by their places

late-get : (day : ℤ) (rows : List Row) (n : ℕ) (row : Row) → Late (is_row_before day) rows → slice_get rows n ≡ Some row → is_row_before day row ≡ false
late-get day [] n row late is = absurd (cc)
late-get day (x ∷ xs) zero row late is = let same : x ≡ row = cc in rw (← same) late.0
late-get day (x ∷ xs) (suc n) row late is = late-get day xs n row late.1 is

get-cons : (x y : Row) (xs ys : List Row) (n : ℕ) (row : Row) → x ≡ y → ((k : ℕ) → slice_get xs k ≡ Some row → slice_get ys k ≡ Some row) → slice_get (x ∷ xs) n ≡ Some row → slice_get (y ∷ ys) n ≡ Some row
get-cons x y xs ys zero row same later is = ap (λ (r : Row). Some r) (sym same) ∙ is
get-cons x y xs ys (suc n) row same later is = later n is

rows-get : (day : ℤ) (xs ys : List Row) (n : ℕ) (row : Row) → IsCut (is_row_before day) xs → IsCut (is_row_before day) ys → filter (is_row_before day) xs ≡ filter (is_row_before day) ys →
    slice_get xs n ≡ Some row → is_row_before day row ≡ true → slice_get ys n ≡ Some row
rows-get day [] ys n row cut cut2 same is early = absurd (cc)
rows-get day (x ∷ xs) [] n row cut cut2 same is early =
    elim (cases_Bool (is_row_before day x)) [
      | inl first ↦ let no_more : x ∷ filter (is_row_before day) xs ≡ [] = rw first at same in absurd (cc)
      | inr late ↦ absurd (let behind = late-get day (x ∷ xs) n row (late, cut.0 late) is in cc)
    ]
rows-get day (x ∷ xs) (y ∷ ys) n row cut cut2 same is early =
    elim (cases_Bool (is_row_before day x)) [
      | inl first ↦ elim (cases_Bool (is_row_before day y)) [
        | inl second ↦
            let both : x ∷ filter (is_row_before day) xs ≡ y ∷ filter (is_row_before day) ys = rw second at (rw first at same) in
            let heads : x ≡ y = cc in
            let tails : filter (is_row_before day) xs ≡ filter (is_row_before day) ys = cc in
            get-cons x y xs ys n row heads (λ k now. rows-get day xs ys k row cut.1 cut2.1 tails now early) is
        | inr late2 ↦
            let left : x ∷ filter (is_row_before day) xs ≡ filter (is_row_before day) (y ∷ ys) = rw first at same in
            let none = late-none (is_row_before day) (y ∷ ys) (late2, cut2.0 late2) in
            absurd (cc)
      ]
      | inr late ↦ absurd (let behind = late-get day (x ∷ xs) n row (late, cut.0 late) is in cc)
    ]

-- a child's row at a place that is dated before the day is the other's
pub row_at-agree : (day : ℤ) (children others : List Stream) (leg n : ℕ) (row : Row) → ChildrenAgree day children others → row_at children leg n ≡ Some row → int_lt row.day day ≡ true → row_at others leg n ≡ Some row
row_at-agree day children others leg n row agree is early =
    let both = child-agree day children others leg agree in
    rows-get day (child children leg).rows (child others leg).rows n row both.cut both.cut2 both.runs.rows is early

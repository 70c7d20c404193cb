-- Lists of days by the numbers of codes or contracts.
use Rattle.std.proofs.Common.{◌≡◌, ◌≢◌, ℕ, zero, suc, ◌+◌, ◌<◌, ◌≤◌, ◌==◌, ◌||◌, Bool, true, false, List, [], ◌∷◌, ◌++◌, length, get_or, set, take, Some, None, Vec, Global, inl, inr, refl, sym, ap, subst, ◌∙◌, arith}
use Rattle.std.proofs.lemmas.Bool.{cases_order, ne_eqb}
use Rattle.std.proofs.lemmas.List.Folds.{list_any_more, list_any_none}
use Rattle.std.proofs.lemmas.Option.{get_or_from_slice_get, same_Some, slice_get_within}
use Rattle.std.specs.List.{All, list_any, slice_get}
use Rattle.act_model.specs.declared.observed.Obs.{Obs}
use Rattle.act_model.specs.declared.observed.Obs.TheVariants.{Rate, Event}
use Rattle.act_profile.specs.Reads.{cut_by, is_in, touches}
use Rattle.act_cut.specs.Cut.{lesser}
use Rattle.act_cut.specs.Lows.{AreListed, AreLows, is_event_of, is_rate_of, least_by}
use Rattle.act_cut.specs.declared.lows.Low.{Low}
use Rattle.act_cut.proofs.Least.{either_by, none_by}
use Rattle.act_cut.proofs.Rising.{lows-quiet}

-- ---- a write

get-set : {X : Type 0} (xs : List X) (i : ℕ) (y : X) → i < length xs → slice_get (set xs i y) i ≡ Some y
get-set [] i y within = absurd (omega arith)
get-set (x ∷ xs) zero y within = refl
get-set (x ∷ xs) (suc i) y within = get-set xs i y (omega arith)

get-set_other : {X : Type 0} (xs : List X) (i j : ℕ) (y : X) → j ≢ i → slice_get (set xs i y) j ≡ slice_get xs j
get-set_other [] i j y other = refl
get-set_other (x ∷ xs) zero zero y other = absurd (other refl)
get-set_other (x ∷ xs) zero (suc j) y other = refl
get-set_other (x ∷ xs) (suc i) zero y other = refl
get-set_other (x ∷ xs) (suc i) (suc j) y other = get-set_other xs i j y (λ same. other (ap suc same))

-- ---- no entries

pub listed-none : (test : ℕ → Obs → Bool) (lists : List (Vec Low Global)) → All (λ lows. lows.items ≡ []) lists → AreListed test [] lists
listed-none test lists empty n lows is =
    let none : lows.items ≡ [] = ap (λ (l : Vec Low Global). l.items) (sym (get_or_from_slice_get lists n lows lows is)) ∙ empty n lows (slice_get_within lists n lows is) in
    subst (AreLows (test n) []) (sym none) (record {
      rising = λ i j first second lt at other. absurd (cc);
      there = λ i low at. absurd (cc);
      reached = λ place entry at passes. absurd (cc);
    })

-- ---- an entry more

module _ (test : ℕ → Obs → Bool) (entries : List Obs) (lists : List (Vec Low Global)) (are : AreListed test entries lists) where
  -- the list of another number
  quiet_at : (entry : Obs) (number n : ℕ) (lows : Vec Low Global) → test n entry ≡ (n == number) → n ≢ number → slice_get lists n ≡ Some lows → AreLows (test n) (entries ++ entry ∷ []) lows.items
  quiet_at entry number n lows own other is = lows-quiet (test n) entries lows.items (are n lows is) entry (own ∙ ne_eqb n number other)

  -- an entry of no number's
  pub listed-quiet : (entry : Obs) → ((n : ℕ) → test n entry ≡ false) → AreListed test (entries ++ entry ∷ []) lists
  listed-quiet entry own n lows is = lows-quiet (test n) entries lows.items (are n lows is) entry (own n)

  pub listed-past : (entry : Obs) (number : ℕ) → ((n : ℕ) → test n entry ≡ (n == number)) → length lists ≤ number → AreListed test (entries ++ entry ∷ []) lists
  listed-past entry number own past n lows is =
      quiet_at entry number n lows (own n) (λ same. let within = slice_get_within lists n lows is in omega arith) is

  module _ (number : ℕ) (was next : Vec Low Global) (at : slice_get lists number ≡ Some was) where
    pub listed-put : (entry : Obs) → ((n : ℕ) → test n entry ≡ (n == number)) → AreLows (test number) (entries ++ entry ∷ []) next.items → AreListed test (entries ++ entry ∷ []) (set lists number next)
    listed-put entry own put n lows is = elim (cases_order n number) [
      | inl same ↦
          let written : next ≡ lows = same_Some next lows (sym (get-set lists number next (slice_get_within lists number was at)) ∙ ap (slice_get (set lists number next)) (sym same) ∙ is) in
          rw same (subst (λ (l : Vec Low Global). AreLows (test number) (entries ++ entry ∷ []) l.items) written put)
      | inr apart ↦
          let other : n ≢ number = λ same. elim apart [ inl lt ↦ absurd (omega arith) | inr gt ↦ absurd (omega arith) ] in
          quiet_at entry number n lows (own n) other (sym (get-set_other lists number n next other) ∙ is)
    ]

    pub listed-same : next.items ≡ was.items → AreListed test entries (set lists number next)
    listed-same items n lows is = elim (cases_order n number) [
      | inl same ↦
          let written : next ≡ lows = same_Some next lows (sym (get-set lists number next (slice_get_within lists number was at)) ∙ ap (slice_get (set lists number next)) (sym same) ∙ is) in
          rw same (subst (AreLows (test number) entries) (sym items ∙ ap (λ (l : Vec Low Global). l.items) written) (are number was at))
      | inr apart ↦
          let other : n ≢ number = λ same. elim apart [ inl lt ↦ absurd (omega arith) | inr gt ↦ absurd (omega arith) ] in
          are n lows (sym (get-set_other lists number n next other) ∙ is)
    ]

-- ---- what touches

or_false : (b : Bool) → (b || false) ≡ b
or_false true = refl
or_false false = refl

touches_either : (codes contracts : List ℕ) (entry : Obs) → touches codes contracts entry ≡ (list_any (λ n. is_rate_of n entry) codes || list_any (λ n. is_event_of n entry) contracts)
touches_either codes contracts (Rate code day value) =
    sym (or_false (is_in codes code)) ∙ ap (λ b. is_in codes code || b) (sym (list_any_none (λ n. is_event_of n (Rate code day value)) contracts (λ k d lt. refl)))
touches_either codes contracts (Event contract kind day value) =
    ap (λ b. b || is_in contracts contract) (sym (list_any_none (λ n. is_rate_of n (Event contract kind day value)) codes (λ k d lt. refl)))

-- the cut is the lesser of the least day of the rates of the codes and that of the events of the contracts
pub cut_either : (codes contracts : List ℕ) (entries : List Obs) (u w : ℕ)
    → cut_by codes contracts entries u w ≡ lesser (least_by (λ entry. list_any (λ n. is_rate_of n entry) codes) entries u w) (least_by (λ entry. list_any (λ n. is_event_of n entry) contracts) entries u w)
unfolding cut_by least_by
cut_either codes contracts entries u w =
    either_by (touches codes contracts) (λ entry. list_any (λ n. is_rate_of n entry) codes) (λ entry. list_any (λ n. is_event_of n entry) contracts) (touches_either codes contracts) entries u w

-- ---- a number more

-- there are no entries of no numbers
pub least_unnumbered : (test : ℕ → Obs → Bool) (entries : List Obs) (u w : ℕ) → least_by (λ entry. list_any (λ n. test n entry) []) entries u w ≡ None
least_unnumbered test entries u w = none_by entries u w (λ entry. list_any (λ n. test n entry) []) (λ place entry from below at passes. absurd (cc))

pub least_numbered : (test : ℕ → Obs → Bool) (entries : List Obs) (u w : ℕ) (numbers : List ℕ) (i : ℕ) → i < length numbers
    → least_by (λ entry. list_any (λ n. test n entry) (take (i + 1) numbers)) entries u w
    ≡ lesser (least_by (λ entry. list_any (λ n. test n entry) (take i numbers)) entries u w) (least_by (test (get_or numbers i 0)) entries u w)
least_numbered test entries u w numbers i within =
    either_by (λ entry. list_any (λ n. test n entry) (take (i + 1) numbers)) (λ entry. list_any (λ n. test n entry) (take i numbers)) (test (get_or numbers i 0)) (λ entry. list_any_more (λ n. test n entry) numbers i 0 within) entries u w

-- Runs that agree before a day stay so under the rule on children's stops.
use Rattle.std.proofs.Common.{◌≡◌, ◌⊎◌, ℕ, true, false, ℤ, int_lt, int_le, List, [], ◌∷◌, map, Option, Some, None, inl, inr, refl, sym, ◌∙◌, ap, arith}
use Rattle.std.specs.List.{filter, fold}
use Rattle.std.proofs.lemmas.Bool.{cases_Bool}
use Rattle.std.proofs.lemmas.Int.{ints}
use Rattle.act_model.specs.Run.{Stream}
use Rattle.act_model.specs.declared.observed.Obs.{Obs}
use Rattle.act_model.specs.declared.run.Close.{Close}
use Rattle.act_model.specs.declared.run.Close.TheVariants.{End, Missing, Overflow}
use Rattle.act_model.specs.declared.run.Row.{Row}
use Rattle.act_model.specs.declared.terms.Common.{Common}
use Rattle.act_model.specs.declared.terms.Kind.{Kind}
use Rattle.act_model.specs.declared.terms.Kind.TheVariants as kind
use Rattle.act_profile.specs.Credit.{credit_day}
use Rattle.act_profile.specs.Stops.{chosen_close, comes_before, earlier_close, is_until, last_reading_day, stop_at_credit, stop_day, stopped_at_credit, stopped_by, stopped_on, under_stop}
use Rattle.act_causality.specs.Causality.{AgreeBefore, RunsAgreeBefore, stops_before}
use Rattle.act_causality.proofs.Children.{ChildrenAgree}
use Rattle.act_causality.proofs.Days.{MaybeAgree, credit_day-agree}
use Rattle.act_causality.proofs.Lists.{filter-within}
use Rattle.act_causality.proofs.Runs.{runs-equal, runs-same, runs-sym, runs-trans, true-false}
use Rattle.act_causality.proofs.Scheduled.{CoveredIn}

-- two closes agree before a day: they are the same, or neither is a stop before it
abbrev pub ClosesAgree : ℤ → Close → Close → Type 0
ClosesAgree day a b =
    ((a ≡ b) × (comes_before (stop_day a) (Some day) ≡ true)) ⊎ ((comes_before (stop_day a) (Some day) ≡ false) × (comes_before (stop_day b) (Some day) ≡ false))

pub runs-closes : (day : ℤ) (one other : Stream) → RunsAgreeBefore day one other → ClosesAgree day one.close other.close
runs-closes day one other agree =
    elim (cases_Bool (stops_before day one)) [
      | inl stops ↦ inl (ap (λ (run : Stream). run.close) (agree.whole (inl stops)), stops)
      | inr goes_on ↦ elim (cases_Bool (stops_before day other)) [
        | inl stops ↦ inl (ap (λ (run : Stream). run.close) (agree.whole (inr stops)), rw (agree.whole (inr stops)) stops)
        | inr goes_on2 ↦ inr (goes_on, goes_on2)
      ]
    ]

earlier_by : (day : ℤ) (a b : Option ℤ) → comes_before a (Some day) ≡ true → comes_before b (Some day) ≡ false → comes_before b a ≡ false
earlier_by day None b early late = absurd (cc)
earlier_by day (Some a) None early late = refl
earlier_by day (Some a) (Some b) early late = grind (arith, ints)

later_by : (day : ℤ) (a b : Option ℤ) → comes_before a (Some day) ≡ false → comes_before b (Some day) ≡ true → comes_before b a ≡ true
later_by day None None late early = absurd (cc)
later_by day None (Some b) late early = refl
later_by day (Some a) None late early = absurd (cc)
later_by day (Some a) (Some b) late early = grind (arith, ints)

late-chosen : (day : ℤ) (a b : Close) → comes_before (stop_day a) (Some day) ≡ false → comes_before (stop_day b) (Some day) ≡ false → comes_before (stop_day (earlier_close a b)) (Some day) ≡ false
late-chosen day a b late late2 =
    elim (cases_Bool (comes_before (stop_day b) (stop_day a))) [
      | inl second ↦ rw second late2
      | inr first ↦ rw first late
    ]

first-chosen : (day : ℤ) (a b : Close) → comes_before (stop_day a) (Some day) ≡ true → comes_before (stop_day b) (Some day) ≡ false → earlier_close a b ≡ a
first-chosen day a b early late = rw (earlier_by day (stop_day a) (stop_day b) early late) refl

second-chosen : (day : ℤ) (a b : Close) → comes_before (stop_day a) (Some day) ≡ false → comes_before (stop_day b) (Some day) ≡ true → earlier_close a b ≡ b
second-chosen day a b late early = rw (later_by day (stop_day a) (stop_day b) late early) refl

early-chosen : (day : ℤ) (a b : Close) → comes_before (stop_day a) (Some day) ≡ true → comes_before (stop_day b) (Some day) ≡ true → comes_before (stop_day (earlier_close a b)) (Some day) ≡ true
early-chosen day a b early early2 =
    elim (cases_Bool (comes_before (stop_day b) (stop_day a))) [
      | inl second ↦ rw second early2
      | inr first ↦ rw first early
    ]

earlier-agree : (day : ℤ) (a a2 b b2 : Close) → ClosesAgree day a a2 → ClosesAgree day b b2 → ClosesAgree day (earlier_close a b) (earlier_close a2 b2)
earlier-agree day a a2 b b2 (inl first) (inl second) = inl (ap (λ c. earlier_close c b) first.0 ∙ ap (earlier_close a2) second.0, early-chosen day a b first.1 second.1)
earlier-agree day a a2 b b2 (inl first) (inr second) =
    let early2 : comes_before (stop_day a2) (Some day) ≡ true = rw (first.0) at first.1 in
    inl (first-chosen day a b first.1 second.0 ∙ first.0 ∙ sym (first-chosen day a2 b2 early2 second.1), rw (first-chosen day a b first.1 second.0) first.1)
earlier-agree day a a2 b b2 (inr first) (inl second) =
    let early2 : comes_before (stop_day b2) (Some day) ≡ true = rw (second.0) at second.1 in
    inl (second-chosen day a b first.0 second.1 ∙ second.0 ∙ sym (second-chosen day a2 b2 first.1 early2), rw (second-chosen day a b first.0 second.1) second.1)
earlier-agree day a a2 b b2 (inr first) (inr second) = inr (late-chosen day a b first.0 second.0, late-chosen day a2 b2 first.1 second.1)

fold-agree : (day : ℤ) (a a2 : Close) (children others : List Stream) → ClosesAgree day a a2 → ChildrenAgree day children others →
    ClosesAgree day (fold earlier_close a (map (λ run. run.close) children)) (fold earlier_close a2 (map (λ run. run.close) others))
fold-agree day a a2 [] [] first agree = first
fold-agree day a a2 [] (y ∷ ys) first agree = absurd agree
fold-agree day a a2 (x ∷ xs) [] first agree = absurd agree
fold-agree day a a2 (x ∷ xs) (y ∷ ys) first agree =
    fold-agree day (earlier_close a x.close) (earlier_close a2 y.close) xs ys (earlier-agree day a a2 x.close y.close first (runs-closes day x y agree.0.runs)) agree.1

-- the chosen stops of children that agree do so
pub chosen-agree : (day : ℤ) (children others : List Stream) → ChildrenAgree day children others → ClosesAgree day (chosen_close children) (chosen_close others)
chosen-agree day children others agree = fold-agree day End End children others (inr (refl, refl)) agree

-- ---- a run that is stopped

before_both : (day t : ℤ) → int_lt t day ≡ false → (row : Row) → int_lt row.day day ≡ true → int_lt row.day t ≡ true
before_both day t late row before = grind (arith, ints)

before_less : (day t : ℤ) → int_lt t day ≡ true → (row : Row) → int_lt row.day t ≡ true → int_lt row.day day ≡ true
before_less day t early row before = grind (arith, ints)

sooner : (day t : ℤ) (stop : Option ℤ) → int_lt t day ≡ false → comes_before stop (Some day) ≡ true → comes_before stop (Some t) ≡ true
sooner day t None late before = absurd (cc)
sooner day t (Some d) late before = grind (arith, ints)

still : (day t : ℤ) (stop : Option ℤ) → int_lt t day ≡ true → comes_before stop (Some t) ≡ true → comes_before stop (Some day) ≡ true
still day t None early before = absurd (cc)
still day t (Some d) early before = grind (arith, ints)

-- stopped on a later day it keeps all that is dated before the day
late-stopped : (day t : ℤ) (stop : Close) (run : Stream) → int_lt t day ≡ false → comes_before (stop_day stop) (Some day) ≡ false → RunsAgreeBefore day (stopped_on t stop run) run
late-stopped day t stop run late behind =
    elim (cases_Bool (comes_before (stop_day run.close) (Some t))) [
      | inl own ↦ rw own (runs-same day run)
      | inr by_stop ↦ rw by_stop (record {
        rows = filter-within (λ (row : Row). int_lt row.day day) (λ (row : Row). int_lt row.day t) (before_both day t late) run.rows;
        whole = λ stops. elim stops [
          | inl a ↦ absurd (true-false (comes_before (stop_day stop) (Some day)) behind a)
          | inr b ↦ absurd (let before = sooner day t (stop_day run.close) late b in cc)
        ];
      })
    ]

-- stopped on an earlier day runs that agree are the same
early-stopped : (day t : ℤ) (stop : Close) (one other : Stream) → int_lt t day ≡ true → RunsAgreeBefore day one other → stopped_on t stop one ≡ stopped_on t stop other
early-stopped day t stop one other early agree =
    elim (cases_Bool (comes_before (stop_day one.close) (Some t))) [
      | inl own ↦ ap (stopped_on t stop) (agree.whole (inl (still day t (stop_day one.close) early own)))
      | inr by_stop ↦ elim (cases_Bool (comes_before (stop_day other.close) (Some t))) [
        | inl own ↦ ap (stopped_on t stop) (agree.whole (inr (still day t (stop_day other.close) early own)))
        | inr by_stop2 ↦ rw by_stop (rw by_stop2 (ap (λ (rows : List Row). record { rows = rows; close = stop }) (
            sym (filter-within (λ (row : Row). int_lt row.day t) (λ (row : Row). int_lt row.day day) (before_less day t early) one.rows)
            ∙ ap (filter (λ (row : Row). int_lt row.day t)) agree.rows
            ∙ filter-within (λ (row : Row). int_lt row.day t) (λ (row : Row). int_lt row.day day) (before_less day t early) other.rows)))
      ]
    ]

-- ---- swaps, caps and floors

late-by : (day : ℤ) (last : Option ℤ) (stop : Close) (at : Option ℤ) (run : Stream) → comes_before at (Some day) ≡ false → comes_before (stop_day stop) (Some day) ≡ false → RunsAgreeBefore day (stopped_by last stop at run) run
late-by day last stop None run late behind = runs-same day run
late-by day last stop (Some t) run late behind =
    elim (cases_Bool (is_until last t)) [
      | inl until ↦ rw until (late-stopped day t stop run late behind)
      | inr past ↦ rw past (runs-same day run)
    ]

early-by : (day : ℤ) (last : Option ℤ) (stop : Close) (at : Option ℤ) (one other : Stream) → comes_before at (Some day) ≡ true → RunsAgreeBefore day one other → RunsAgreeBefore day (stopped_by last stop at one) (stopped_by last stop at other)
early-by day last stop None one other early agree = agree
early-by day last stop (Some t) one other early agree =
    elim (cases_Bool (is_until last t)) [
      | inl until ↦ rw until (runs-equal day (stopped_on t stop one) (stopped_on t stop other) (early-stopped day t stop one other early agree))
      | inr past ↦ rw past agree
    ]

by-agree : (day : ℤ) (last : Option ℤ) (a b : Close) (one other : Stream) → ClosesAgree day a b → RunsAgreeBefore day one other → RunsAgreeBefore day (stopped_by last a (stop_day a) one) (stopped_by last b (stop_day b) other)
by-agree day last a b one other (inl same) agree = rw (← same.0) (early-by day last a (stop_day a) one other same.1 agree)
by-agree day last a b one other (inr late) agree =
    runs-trans day (stopped_by last a (stop_day a) one) one (stopped_by last b (stop_day b) other) (late-by day last a (stop_day a) one late.0 late.0)
    (runs-trans day one other (stopped_by last b (stop_day b) other) agree (runs-sym day (stopped_by last b (stop_day b) other) other (late-by day last b (stop_day b) other late.1 late.1)))

-- ---- guarantees

credit-stop : (day credit : ℤ) (stop : Close) → int_lt credit day ≡ false → comes_before (stop_day (stop_at_credit credit stop)) (Some day) ≡ false
credit-stop day credit End late = refl
credit-stop day credit (Missing code d) late = late
credit-stop day credit (Overflow d what) late = late

late-credit : (day : ℤ) (credit : Option ℤ) (stop : Close) (at : Option ℤ) (run : Stream) → comes_before credit (Some day) ≡ false → RunsAgreeBefore day (stopped_at_credit credit stop at run) run
late-credit day None stop at run late = runs-same day run
late-credit day (Some credit) stop None run late = runs-same day run
late-credit day (Some credit) stop (Some t) run late =
    elim (cases_Bool (int_le t credit)) [
      | inl until ↦ rw until (late-stopped day credit (stop_at_credit credit stop) run late (credit-stop day credit stop late))
      | inr past ↦ rw past (runs-same day run)
    ]

past_credit : (day credit t : ℤ) → int_lt credit day ≡ true → int_lt t day ≡ false → int_le t credit ≡ false
past_credit day credit t early late = grind (arith, ints)

unread : (day : ℤ) (credit : Option ℤ) (stop : Close) (at : Option ℤ) (run : Stream) → comes_before credit (Some day) ≡ true → comes_before at (Some day) ≡ false → stopped_at_credit credit stop at run ≡ run
unread day None stop at run early late = refl
unread day (Some credit) stop None run early late = refl
unread day (Some credit) stop (Some t) run early late = rw (past_credit day credit t early late) refl

same-credit : (day : ℤ) (credit : Option ℤ) (stop : Close) (at : Option ℤ) (one other : Stream) → comes_before credit (Some day) ≡ true → RunsAgreeBefore day one other →
    RunsAgreeBefore day (stopped_at_credit credit stop at one) (stopped_at_credit credit stop at other)
same-credit day None stop at one other early agree = agree
same-credit day (Some credit) stop None one other early agree = agree
same-credit day (Some credit) stop (Some t) one other early agree =
    elim (cases_Bool (int_le t credit)) [
      | inl until ↦ rw until (runs-equal day (stopped_on credit (stop_at_credit credit stop) one) (stopped_on credit (stop_at_credit credit stop) other) (early-stopped day credit (stop_at_credit credit stop) one other early agree))
      | inr past ↦ rw past agree
    ]

credit-agree : (day : ℤ) (x y : Option ℤ) (a b : Close) (one other : Stream) → MaybeAgree day x y → ClosesAgree day a b → RunsAgreeBefore day one other →
    RunsAgreeBefore day (stopped_at_credit x a (stop_day a) one) (stopped_at_credit y b (stop_day b) other)
credit-agree day x y a b one other (inl same) (inl closes) agree = rw (← same.0) (rw (← closes.0) (same-credit day x a (stop_day a) one other same.1 agree))
credit-agree day x y a b one other (inl same) (inr closes) agree =
    rw (← same.0) (rw (unread day x a (stop_day a) one same.1 closes.0) (rw (unread day x b (stop_day b) other same.1 closes.1) agree))
credit-agree day x y a b one other (inr late) closes agree =
    runs-trans day (stopped_at_credit x a (stop_day a) one) one (stopped_at_credit y b (stop_day b) other) (late-credit day x a (stop_day a) one late.0)
    (runs-trans day one other (stopped_at_credit y b (stop_day b) other) agree (runs-sym day (stopped_at_credit y b (stop_day b) other) other (late-credit day y b (stop_day b) other late.1)))

-- ---- any kind

module _ (day : ℤ) (codes contracts : List ℕ) (one other : List Obs) (agree : AgreeBefore day codes contracts one other) where
  -- two own runs that agree do so under the chosen stops of children that do
  pub under_stop-agree : (common : Common) (contract : Kind) (a b : Close) (run same : Stream) → CoveredIn contracts contract → ClosesAgree day a b → RunsAgreeBefore day run same →
      RunsAgreeBefore day (under_stop common contract one a run) (under_stop common contract other b same)
  under_stop-agree common (kind.SWAPS swaps) a b run same covered closes runs = by-agree day (last_reading_day common (kind.SWAPS swaps)) a b run same closes runs
  under_stop-agree common (kind.CAPFL capfl) a b run same covered closes runs = by-agree day (last_reading_day common (kind.CAPFL capfl)) a b run same closes runs
  under_stop-agree common (kind.CEG ceg) a b run same covered closes runs =
      credit-agree day (credit_day one common ceg) (credit_day other common ceg) a b run same (credit_day-agree day codes contracts one other agree common ceg covered) closes runs
  under_stop-agree common (kind.CEC cec) a b run same covered closes runs =
      credit-agree day (credit_day one common cec.guarantee) (credit_day other common cec.guarantee) a b run same (credit_day-agree day codes contracts one other agree common cec.guarantee covered) closes runs
  under_stop-agree common contract a b run same covered closes runs = runs

-- Which days the list of a schedule has, and their order.
use Rattle.std.proofs.Common.{◌≡◌, ℕ, zero, suc, ◌-◌, ◌<◌, ◌≤◌, max, ℤ, ◌<ℤ◌, ◌≤ℤ◌, List, [], ◌∷◌, ◌++◌, length, get_or, take, Option, Some, None, Bool, true, false, if◌then◌else◌, ◌⊎◌, ◌↔◌, inl, inr, refl, sym, ap, ◌∙◌, arith}
use Rattle.std.proofs.Math.Seq.{take-length}
use Rattle.std.proofs.lemmas.Bool.{both_ways, cases_Bool, cases_lt, cases_order}
use Rattle.std.proofs.lemmas.Bool.Decides.{Decides-int_eq}
use Rattle.std.proofs.lemmas.Int.{ints}
use Rattle.std.proofs.lemmas.List.{get_or-take, length-take}
use Rattle.std.proofs.lemmas.List.Elements.{Contains-append_left, Contains-get_or, Contains-push, Contains-push_cases}
use Rattle.std.proofs.lemmas.List.Quantifiers.{all_pairs_push}
use Rattle.std.proofs.lemmas.Option.{none-some, same_Some}
use Rattle.std.specs.List.{AllPairs, Contains}
use Rattle.std.specs.Option.{ForSome}
use Rattle.std.specs.Ordering.{int_eq}
use Rattle.std.specs.Prelude.{int_le, int_lt}
use Rattle.act_date.specs.Civil.{IsDay}
use Rattle.act_date.specs.declared.cycle.Cycle.{Cycle}
use Rattle.act_date.specs.declared.cycle.MonthRule.{MonthRule}
use Rattle.act_date.specs.declared.cycle.Stub.{Stub}
use Rattle.act_date.specs.declared.cycle.Stub.TheVariants.{Long, Short}
use Rattle.act_sched.specs.Schedule.{IsCycleDate, IsEarlierDate, IsLeftOut, IsScheduleDate, LeadsOn, cycle_date, dates_before, earlier_dates, is_long_stub, schedule_dates}
use Rattle.act_sched.proofs.CycleDates.{cycle_date-rises}
use Rattle.act_sched.proofs.DatesBefore.{AreBefore, dates_before-are, late}
use Rattle.act_sched.proofs.Rising.{Rises, before}

-- ---- lists and stubs

abbrev pub Ascends : List ℤ → Type 0
Ascends xs = AllPairs (λ earlier later. earlier <ℤ later) xs

front_ascends : (m : ℕ) (xs : List ℤ) → Ascends xs → Ascends (take m xs)
front_ascends m xs all = λ i j d lt inside.
    let short = length-take m xs in
    let first : get_or (take m xs) i d ≡ get_or xs i d = get_or-take m xs i d (omega arith) in
    let second : get_or (take m xs) j d ≡ get_or xs j d = get_or-take m xs j d (omega arith) in
    rw (first, second) (all i j d lt (omega arith))

only : (x d : ℤ) → Contains (x ∷ []) d → x ≡ d
only x d (zero, lt, same) = same
only x d (suc k, lt, same) = absurd (omega arith)

pub stub_parts : (stub : Stub) (next : Option ℤ) (end : ℤ) → is_long_stub stub next end ≡ true → (stub ≡ Long) × (next ≡ Some end → ⊥)
stub_parts Short next end holds = cc
stub_parts Long None end holds = (refl, λ is. none-some end is)
stub_parts Long (Some day) end holds =
    (refl, λ is. let same = (Decides-int_eq day end).1 (same_Some day end is) in both_ways true (sym (rw same at holds)) refl)

pub stub_from : (stub : Stub) (next : Option ℤ) (end : ℤ) → stub ≡ Long → (next ≡ Some end → ⊥) → is_long_stub stub next end ≡ true
stub_from Short next end long other = cc
stub_from Long None end long other = refl
stub_from Long (Some day) end long other =
    elim (cases_Bool (int_eq day end)) [
      | inl same ↦ absurd (other (ap Some ((Decides-int_eq day end).0 same)))
      | inr differs ↦ rw differs refl
    ]

-- ---- the dates before the end

-- which they are, that they ascend, and that they are before it
pub record AreEarlier (anchor : ℤ) (cycle : Option Cycle) (end : ℤ) (rule : MonthRule) (xs : List ℤ) : Type 0 where
  pub from : (day : ℤ) → Contains xs day → IsEarlierDate anchor cycle end rule day
  pub into : (day : ℤ) → IsEarlierDate anchor cycle end rule day → (day ≡ end) ⊎ Contains xs day
  pub ascending : Ascends xs
  pub early : (k : ℕ) (d : ℤ) → k < length xs → get_or xs k d <ℤ end

anchor_is_earlier : (anchor end : ℤ) (rule : MonthRule) → anchor ≤ℤ end → (early : Bool) → int_lt anchor end ≡ early → AreEarlier anchor None end rule (if early then anchor ∷ [] else [])
anchor_is_earlier anchor end rule le true is =
    record {
      from = λ day among. sym (only anchor day among);
      into = λ day same. inr (0, omega arith, sym same);
      ascending = λ i j d lt inside. absurd (omega arith);
      early = λ k d lt. let same = only anchor _ (Contains-get_or (anchor ∷ []) k d lt) in rw (← same) (omega (arith, ints));
    }
anchor_is_earlier anchor end rule le false is =
    record {
      from = λ day among. absurd (omega (arith, among.1));
      into = λ day same. inl (omega (arith, ints));
      ascending = λ i j d lt inside. absurd (omega arith);
      early = λ k d lt. absurd (omega arith);
    }

-- what a day of the first m dates of the cycle is
record IsInFront (anchor : ℤ) (cycle : Cycle) (end : ℤ) (rule : MonthRule) (m : ℕ) (day : ℤ) : Type 0 where
  k : ℕ
  low : k < m
  is : cycle_date anchor cycle rule k ≡ Some day
  early : day <ℤ end

-- xs are the dates of the cycle before the end
module _ (anchor : ℤ) (cycle : Cycle) (end : ℤ) (rule : MonthRule) (xs : List ℤ) (up : Rises (cycle_date anchor cycle rule) anchor) (all : AreBefore (cycle_date anchor cycle rule) end xs) where
  -- a date before the end is among them
  place : (k : ℕ) (day : ℤ) → cycle_date anchor cycle rule k ≡ Some day → day <ℤ end → k < length xs
  place k day is early =
      elim (cases_lt k (length xs)) [ inl lt ↦ lt | inr le ↦ let from = late up all k day le is in absurd (omega (arith, ints)) ]

  ascends : Ascends xs
  ascends = λ i j d lt inside.
      let later = all.at j d inside in
      let sooner = all.at i d (omega arith) in
      let first = before up i j _ lt later.0 in
      let same : first.0 ≡ get_or xs i d = same_Some _ _ (sym first.1 ∙ sooner.0) in
      rw (← same) first.2

  front_has : (m k : ℕ) (day : ℤ) → k < m → cycle_date anchor cycle rule k ≡ Some day → day <ℤ end → Contains (take m xs) day
  front_has m k day lt is early =
      let inside = place k day is early in
      (k, omega (arith, length-take m xs), get_or-take m xs k day lt ∙ same_Some _ _ (sym (all.at k day inside).0 ∙ is))

  in_front : (m : ℕ) (day : ℤ) → Contains (take m xs) day → IsInFront anchor cycle end rule m day
  in_front m day (k, inside, same) =
      let short = length-take m xs in
      let low : k < m = omega arith in
      let at = all.at k day (omega arith) in
      let value : get_or xs k day ≡ day = sym (get_or-take m xs k day low) ∙ same in
      record { k = k; low = low; is = at.0 ∙ ap Some value; early = rw value at at.1 }

  -- the end is no date of the cycle where it isn't the next one
  end_is_none : (cycle_date anchor cycle rule (length xs) ≡ Some end → ⊥) → ¬ (IsCycleDate anchor cycle rule end)
  end_is_none other (k, is) =
      elim (cases_order (length xs) k) [
        | inl here ↦ other (rw here is)
        | inr (inl lt) ↦
            let first = before up (length xs) k end lt is in
            let late = all.next first.0 first.1 in
            absurd (omega (arith, ints))
        | inr (inr lt) ↦
            let at = all.at k end lt in
            let same : get_or xs k end ≡ end = same_Some _ _ (sym at.0 ∙ is) in
            let early : get_or xs k end <ℤ end = at.1 in
            absurd (omega (arith, ints))
      ]

  -- without a long stub all stay
  whole : is_long_stub cycle.stub (cycle_date anchor cycle rule (length xs)) end ≡ false → (day : ℤ) → Contains xs day ↔ IsEarlierDate anchor (Some cycle) end rule day
  whole not_long day =
      let stays : ¬ (IsLeftOut anchor cycle end rule day) = λ out. both_ways _ not_long (stub_from cycle.stub _ end out.long (λ is. out.stub (length xs, is))) in (
        λ among. let found = in_front (length xs) day (rw take-length among) in ((found.k, found.is), found.early, stays),
        λ date. rw take-length at (front_has (length xs) date.0.0 day (place date.0.0 day date.0.1 date.1) date.0.1 date.1),
      )

  -- with one a day that isn't the last isn't left out, and neither is the first
  stays : (day : ℤ) → IsInFront anchor cycle end rule (max 1 (length xs - 1)) day → ¬ (IsLeftOut anchor cycle end rule day)
  stays day found out =
      elim (cases_lt 1 (length xs)) [
        | inl many ↦
            let last = all.at (length xs - 1) day (omega arith) in
            let most = out.greatest _ (length xs - 1, last.0) last.1 in
            let this = before up found.k (length xs - 1) _ (omega (arith, found.low)) last.0 in
            let same : this.0 ≡ day = same_Some _ _ (sym this.1 ∙ found.is) in
            absurd (omega (arith, ints))
        | inr few ↦
            let first = before up 0 out.later.0 day out.later.1 out.later.2 in
            let here : found.k ≡ 0 = omega (arith, found.low) in
            let same : first.0 ≡ day = same_Some _ _ (sym first.1 ∙ rw here at found.is) in
            absurd (omega (arith, ints))
      ]

  -- but the last is
  last_goes : is_long_stub cycle.stub (cycle_date anchor cycle rule (length xs)) end ≡ true → (k : ℕ) (day : ℤ) → max 1 (length xs - 1) ≤ k → cycle_date anchor cycle rule k ≡ Some day → day <ℤ end → IsLeftOut anchor cycle end rule day
  last_goes is_long k day high is early =
      let parts = stub_parts cycle.stub _ end is_long in
      record {
        long = parts.0;
        stub = end_is_none parts.1;
        before = early;
        later = (k, omega arith, is);
        greatest = λ other (j, at) lt. elim (cases_order j k) [
          | inl same ↦ let equal : other ≡ day = same_Some _ _ (sym at ∙ rw (← same) at is) in omega (arith, ints)
          | inr (inl sooner) ↦
              let first = before up j k day sooner is in
              let equal : first.0 ≡ other = same_Some _ _ (sym first.1 ∙ at) in
              omega (arith, ints)
          | inr (inr later) ↦ absurd (omega (arith, place j other at lt))
        ];
      }

  without_last : is_long_stub cycle.stub (cycle_date anchor cycle rule (length xs)) end ≡ true → (day : ℤ) → Contains (take (max 1 (length xs - 1)) xs) day ↔ IsEarlierDate anchor (Some cycle) end rule day
  without_last is_long day = (
    λ among. let found = in_front (max 1 (length xs - 1)) day among in ((found.k, found.is), found.early, stays day found),
    λ date. elim (cases_lt date.0.0 (max 1 (length xs - 1))) [
      | inl low ↦ front_has (max 1 (length xs - 1)) date.0.0 day low date.0.1 date.1
      | inr high ↦ absurd (date.2 (last_goes is_long date.0.0 day high date.0.1 date.1))
    ],
  )

  cycle_is_earlier : (long : Bool) → is_long_stub cycle.stub (cycle_date anchor cycle rule (length xs)) end ≡ long → AreEarlier anchor (Some cycle) end rule (if long then take (max 1 (length xs - 1)) xs else xs)
  cycle_is_earlier true is_long =
      let same = without_last is_long in
      record {
        from = λ day. (same day).0;
        into = λ day date. inr ((same day).1 date);
        ascending = front_ascends (max 1 (length xs - 1)) xs ascends;
        early = λ k d lt. ((same _).0 (Contains-get_or (take (max 1 (length xs - 1)) xs) k d lt)).1;
      }
  cycle_is_earlier false not_long =
      let same = whole not_long in
      record {
        from = λ day. (same day).0;
        into = λ day date. inr ((same day).1 date);
        ascending = ascends;
        early = λ k d lt. (all.at k d lt).1;
      }

pub are_earlier : (anchor : ℤ) (cycle : Option Cycle) (end : ℤ) (rule : MonthRule) → IsDay anchor → LeadsOn cycle → anchor ≤ℤ end → AreEarlier anchor cycle end rule (earlier_dates anchor cycle end rule)
are_earlier anchor None end rule h some le = anchor_is_earlier anchor end rule le (int_lt anchor end) refl
are_earlier anchor (Some cycle) end rule h some le =
    cycle_is_earlier anchor cycle end rule (dates_before anchor cycle end rule) (cycle_date-rises anchor cycle rule h (some cycle refl)) (dates_before-are anchor cycle end rule h (some cycle refl)) _ refl

-- ---- with the end as the last

members_to : (anchor : ℤ) (cycle : Option Cycle) (end : ℤ) (rule : MonthRule) (xs : List ℤ) → AreEarlier anchor cycle end rule xs → anchor ≤ℤ end → (day : ℤ) → Contains (xs ++ end ∷ []) day ↔ IsScheduleDate (Some anchor) cycle end rule day
members_to anchor cycle end rule xs all le day =
    let last : day ≡ end → Contains (xs ++ end ∷ []) day = λ same. rw same (Contains-push xs end) in (
      λ among. elim (Contains-push_cases xs end day among) [ inl old ↦ (le, inr (all.from day old)) | inr same ↦ (le, inl (sym same)) ],
      λ date. elim date.1 [
        | inl same ↦ last same
        | inr earlier ↦ elim (all.into day earlier) [ inl same ↦ last same | inr old ↦ Contains-append_left xs (end ∷ []) day old ]
      ],
    )

pub members : (anchor : Option ℤ) (cycle : Option Cycle) (end : ℤ) (rule : MonthRule) → ForSome anchor IsDay → LeadsOn cycle → (day : ℤ) → Contains (schedule_dates anchor cycle end rule) day ↔ IsScheduleDate anchor cycle end rule day
unfolding schedule_dates
members None cycle end rule h some day = (λ among. absurd (omega (arith, among.1)), λ date. absurd date)
members (Some anchor) cycle end rule h some day =
    elim (cases_Bool (int_le anchor end)) [
      | inl is ↦ let le : anchor ≤ℤ end = omega (arith, ints) in rw is (members_to anchor cycle end rule _ (are_earlier anchor cycle end rule (h anchor refl) some le) le day)
      | inr late ↦ rw late (λ among. absurd (omega (arith, among.1)), λ date. absurd (let le = date.0 in omega (arith, ints)))
    ]

pub ascending : (anchor : Option ℤ) (cycle : Option Cycle) (end : ℤ) (rule : MonthRule) → ForSome anchor IsDay → LeadsOn cycle → Ascends (schedule_dates anchor cycle end rule)
unfolding schedule_dates
ascending None cycle end rule h some = λ i j d lt inside. absurd (omega arith)
ascending (Some anchor) cycle end rule h some =
    elim (cases_Bool (int_le anchor end)) [
      | inl is ↦
          let le : anchor ≤ℤ end = omega (arith, ints) in
          let all = are_earlier anchor cycle end rule (h anchor refl) some le in
          rw is (all_pairs_push (λ earlier later. earlier <ℤ later) (earlier_dates anchor cycle end rule) end all.ascending all.early)
      | inr late ↦ rw late (λ i j d lt inside. absurd (omega arith))
    ]

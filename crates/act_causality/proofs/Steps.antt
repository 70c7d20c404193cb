-- Steps at a day before a change: they read observations of that day alone, and not the place of the event's observation.
use Rattle.std.proofs.Common.{◌≡◌, ◌==◌, ℕ, Bool, true, false, ℤ, List, [], ◌∷◌, ◌++◌, Option, Some, None, Result, Ok, Err, inl, inr, refl, ◌∙◌, ap, arith}
use Rattle.std.specs.Option.{ok_or}
use Rattle.std.specs.Prelude.{option_and_then}
use Rattle.std.proofs.lemmas.Bool.{cases_Bool}
use Rattle.std.proofs.lemmas.Bool.Decides.{nat_tests}
use Rattle.act_model.specs.Observed.{observation}
use Rattle.act_model.specs.declared.event.Event.{Event}
use Rattle.act_model.specs.declared.event.EventType.{EventType}
use Rattle.act_model.specs.declared.observed.Obs.{Obs}
use Rattle.act_model.specs.declared.run.Stop.{Stop}
use Rattle.act_model.specs.declared.run.Stop.TheVariants.{Overflow}
use Rattle.act_model.specs.declared.state.State.{State}
use Rattle.act_profile.specs.Credit.{reading_all}
use Rattle.act_profile.specs.Reads.{given_code, is_in}
use Rattle.act_profile.specs.Run.{close_of}
use Rattle.act_profile.specs.Step.{Payoff, StepLine, change_code, factor_code, nothing, outcome, payoff_code, pays, pays_by, reading, step_by, unpaid, with_value}
use Rattle.act_profile.specs.Stops.{stop_day}
use Rattle.act_causality.specs.Causality.{HaveSameValues}

-- ---- codes in lists

itself : (code : ℕ) → (code == code) ≡ true
itself code = grind (arith, nat_tests)

pub in_given : (code : ℕ) → is_in (given_code (Some code)) code ≡ true
in_given code = rw (itself code) refl

pub in_first : (xs ys : List ℕ) (code : ℕ) → is_in xs code ≡ true → is_in (xs ++ ys) code ≡ true
in_first [] ys code is = absurd (cc)
in_first (x ∷ xs) ys code is =
    elim (cases_Bool (x == code)) [
      | inl here ↦ rw here refl
      | inr other ↦ rw other (in_first xs ys code (rw other at is))
    ]

pub in_second : (xs ys : List ℕ) (code : ℕ) → is_in ys code ≡ true → is_in (xs ++ ys) code ≡ true
in_second [] ys code is = is
in_second (x ∷ xs) ys code is =
    elim (cases_Bool (x == code)) [
      | inl here ↦ rw here refl
      | inr other ↦ rw other (in_second xs ys code is)
    ]

-- a code, where there is one, is in the list
abbrev pub IsRead : List ℕ → Option ℕ → Type 0
IsRead codes None = Unit {0}
IsRead codes (Some code) = is_in codes code ≡ true

pub read-more : (codes more : List ℕ) → ((code : ℕ) → is_in codes code ≡ true → is_in more code ≡ true) → (code : Option ℕ) → IsRead codes code → IsRead more code
read-more codes more within None is = tt
read-more codes more within (Some code) is = within code is

pub given-read : (code : Option ℕ) → IsRead (given_code code) code
given-read None = tt
given-read (Some code) = in_given code

-- the codes that a line reads are in the list
pub record LineReads (codes : List ℕ) (line : StepLine) : Type 0 where
  pub payoff : IsRead codes (payoff_code line.payoff)
  pub change : IsRead codes (change_code line.change)

pub line-more : (codes more : List ℕ) → ((code : ℕ) → is_in codes code ≡ true → is_in more code ≡ true) → (line : StepLine) → LineReads codes line → LineReads more line
line-more codes more within line reads = record {
  payoff = read-more codes more within (payoff_code line.payoff) reads.payoff;
  change = read-more codes more within (change_code line.change) reads.change;
}

pub unpaid-reads : (codes : List ℕ) (before : Bool) (line : StepLine) → LineReads codes line → LineReads codes (unpaid before line)
unpaid-reads codes true line reads = record { payoff = tt; change = reads.change }
unpaid-reads codes false line reads = reads

pub factor-read : (codes : List ℕ) (factor : Option ℕ) (payoff : Payoff) → IsRead codes factor → IsRead codes (factor_code factor payoff)
factor-read codes factor nothing is = tt
factor-read codes factor (pays amount) is = is
factor-read codes factor (pays_by code amount) is = is

-- ---- reads

value-agree : {A : Type 0} (code : ℕ) (day : ℤ) (value : Option ℤ) (f g : ℤ → Result A Stop) → ((x : ℤ) → f x ≡ g x) → with_value code day value f ≡ with_value code day value g
value-agree code day None f g same = refl
value-agree code day (Some x) f g same = same x

module _ (t : ℤ) (codes : List ℕ) (one other : List Obs) (values : HaveSameValues t codes one other) where
  reading-agree : {A : Type 0} (code : Option ℕ) → IsRead codes code → (f g : Option ℤ → Result A Stop) → ((x : Option ℤ) → f x ≡ g x) → reading one t code f ≡ reading other t code g
  reading-agree None is f g same = same None
  reading-agree (Some code) is f g same =
      ap (λ (value : Option ℤ). with_value code t value (λ x. f (Some x))) (values code is)
      ∙ value-agree code t (observation other code t) (λ x. f (Some x)) (λ x. g (Some x)) (λ x. same (Some x))

  -- all the values that are read are the same
  pub reading_all-agree : {A : Type 0} (more : List ℕ) → ((code : ℕ) → is_in more code ≡ true → is_in codes code ≡ true) → (f g : List ℤ → Result A Stop) → ((xs : List ℤ) → f xs ≡ g xs) →
      reading_all one t more f ≡ reading_all other t more g
  unfolding reading_all
  reading_all-agree [] within f g same = same []
  reading_all-agree (code ∷ more) within f g same =
      ap (λ (value : Option ℤ). with_value code t value (λ x. reading_all one t more (λ xs. f (x ∷ xs)))) (values code (within code (in_first (code ∷ []) more code (in_given code))))
      ∙ value-agree code t (observation other code t) (λ x. reading_all one t more (λ xs. f (x ∷ xs))) (λ x. reading_all other t more (λ xs. g (x ∷ xs)))
      (λ x. reading_all-agree more (λ c is. within c (in_second (code ∷ []) more c is)) (λ xs. f (x ∷ xs)) (λ xs. g (x ∷ xs)) (λ xs. same (x ∷ xs)))

-- the step of a line that reads no other code depends on the values of its event's day alone
pub step_by-agree : (codes : List ℕ) (one other : List Obs) (factor : Option ℕ) (event : Event) (accrue : State → Option State) (line : StepLine) (s : State) → HaveSameValues event.day codes one other → IsRead codes factor → LineReads codes line →
    step_by one factor event accrue line s ≡ step_by other factor event accrue line s
step_by-agree codes one other factor event accrue line s values is reads =
    reading-agree event.day codes one other values (factor_code factor line.payoff) (factor-read codes factor line.payoff is) _ _ (λ x.
    reading-agree event.day codes one other values (payoff_code line.payoff) reads.payoff _ _ (λ value.
    reading-agree event.day codes one other values (change_code line.change) reads.change _ _ (λ more. refl)))

-- ---- stops

-- a stop is on that day
abbrev pub OnDay : {A : Type 0} → ℤ → Result A Stop → Type 0
OnDay day (Ok value) = Unit {0}
OnDay day (Err stop) = stop_day (close_of stop) ≡ Some day

pub on_day-stop : {A : Type 0} (day : ℤ) (result : Result A Stop) (stop : Stop) → OnDay day result → result ≡ Err stop → stop_day (close_of stop) ≡ Some day
on_day-stop day result stop on is = rw is at on

value-on_day : {A : Type 0} (code : ℕ) (day : ℤ) (value : Option ℤ) (f : ℤ → Result A Stop) → ((x : ℤ) → OnDay day (f x)) → OnDay day (with_value code day value f)
value-on_day code day None f on = refl
value-on_day code day (Some x) f on = on x

reading-on_day : {A : Type 0} (entries : List Obs) (day : ℤ) (code : Option ℕ) (f : Option ℤ → Result A Stop) → ((x : Option ℤ) → OnDay day (f x)) → OnDay day (reading entries day code f)
reading-on_day entries day None f on = on None
reading-on_day entries day (Some code) f on = value-on_day code day (observation entries code day) (λ x. f (Some x)) (λ x. on (Some x))

pub reading_all-on_day : {A : Type 0} (entries : List Obs) (day : ℤ) (codes : List ℕ) (f : List ℤ → Result A Stop) → ((xs : List ℤ) → OnDay day (f xs)) → OnDay day (reading_all entries day codes f)
unfolding reading_all
reading_all-on_day entries day [] f on = on []
reading_all-on_day entries day (code ∷ codes) f on =
    value-on_day code day (observation entries code day) (λ x. reading_all entries day codes (λ xs. f (x ∷ xs))) (λ x. reading_all-on_day entries day codes (λ xs. f (x ∷ xs)) (λ xs. on (x ∷ xs)))

pub overflow-on_day : {A : Type 0} (day : ℤ) (type : EventType) (value : Option A) → OnDay day (ok_or value (Overflow day type))
overflow-on_day day type None = refl
overflow-on_day day type (Some value) = tt

pub step_by-on_day : (entries : List Obs) (factor : Option ℕ) (event : Event) (accrue : State → Option State) (line : StepLine) (s : State) → OnDay event.day (step_by entries factor event accrue line s)
step_by-on_day entries factor event accrue line s =
    reading-on_day entries event.day (factor_code factor line.payoff) _ (λ x.
    reading-on_day entries event.day (payoff_code line.payoff) _ (λ value.
    reading-on_day entries event.day (change_code line.change) _ (λ more.
    overflow-on_day event.day event.kind (option_and_then (outcome line x value more) (accrue s)))))

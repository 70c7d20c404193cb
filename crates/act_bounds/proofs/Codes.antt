-- A step that stops does so on the day of its event, and by a code that the contract reads.
use Rattle.std.proofs.Common.{◌≡◌, ◌==◌, ◌<◌, ℕ, true, ℤ, List, [], ◌∷◌, Option, Some, None, Result, Ok, Err, inl, inr, arith}
use Rattle.std.specs.List.{AllByRecursion}
use Rattle.std.specs.Option.{ok_or}
use Rattle.std.specs.Prelude.{option_and_then}
use Rattle.std.proofs.lemmas.Bool.{cases_Bool}
use Rattle.std.proofs.lemmas.Bool.Decides.{nat_tests}
use Rattle.std.proofs.lemmas.List.Elements.{recursion_from_All}
use Rattle.act_date.specs.Civil.{IsDay}
use Rattle.act_model.specs.Observed.{observation}
use Rattle.act_model.specs.Run.{EventPlan, Stream}
use Rattle.act_model.specs.declared.event.Event.{Event}
use Rattle.act_model.specs.declared.event.EventType.{EventType}
use Rattle.act_model.specs.declared.event.EventType.TheVariants as type
use Rattle.act_model.specs.declared.observed.Obs.{Obs}
use Rattle.act_model.specs.declared.run.Stop.{Stop}
use Rattle.act_model.specs.declared.run.Stop.TheVariants.{Overflow}
use Rattle.act_model.specs.declared.state.State.{State}
use Rattle.act_model.specs.declared.terms.Kind.{Kind}
use Rattle.act_model.specs.declared.terms.Kind.TheVariants as kind
use Rattle.act_model.specs.declared.terms.Terms.{Terms}
use Rattle.act_profile.specs.Credit.{after_credit_event, covered_part, market_codes, reading_all, sum_of_magnitudes}
use Rattle.act_profile.specs.Formula.{lesser}
use Rattle.act_profile.specs.Order.{is_own}
use Rattle.act_profile.specs.Printable.{AreNamed}
use Rattle.act_profile.specs.Reads.{codes_of, is_in, kind_codes}
use Rattle.act_profile.specs.Run.{close_of}
use Rattle.act_profile.specs.Step.{StepLine, change_code, factor_code, outcome, payoff_code, reading, step_by, unpaid, with_value}
use Rattle.act_profile.specs.Steps.{accrual_by, factor_for, guarantee_step_by, is_unpaid, line_by, step_by_line, step_of}
use Rattle.act_bounds.specs.Bounds.{CloseHolds}
use Rattle.act_causality.proofs.KindSteps.{factor-in, kind-in}
use Rattle.act_causality.proofs.Lines.{kind-reads}
use Rattle.act_causality.proofs.Plans.{ScalesWhereScaled}
use Rattle.act_causality.proofs.Steps.{IsRead, LineReads, factor-read, in_first, in_second, in_given, line-more, unpaid-reads}

-- ---- reads

module _ (codes : ℕ) where
  -- codes are among so many
  abbrev pub AreBelow : List ℕ → Type 0
  AreBelow own = AllByRecursion (λ code. code < codes) own

  same-code : (a b : ℕ) → (a == b) ≡ true → a < codes → b < codes
  same-code a b same below = grind (arith, nat_tests)

  one-below : (own : List ℕ) → AreBelow own → (code : ℕ) → is_in own code ≡ true → code < codes
  one-below [] all code is = absurd (cc)
  one-below (c ∷ own) all code is =
      elim (cases_Bool (c == code)) [
        | inl same ↦ same-code c code same all.0
        | inr other ↦ one-below own all.1 code (rw other at is)
      ]

  all-below : (own : List ℕ) → AreBelow own → (more : List ℕ) → ((code : ℕ) → is_in more code ≡ true → is_in own code ≡ true) → AreBelow more
  all-below own below [] within = tt
  all-below own below (code ∷ more) within =
      (one-below own below code (within code (in_first (code ∷ []) more code (in_given code))), all-below own below more (λ c is. within c (in_second (code ∷ []) more c is)))

  -- where an outcome is a stop, its day is a day and its code one of so many
  abbrev pub StopHolds : {A : Type 0} → Result A Stop → Type 0
  StopHolds (Ok value) = Unit {0}
  StopHolds (Err stop) = CloseHolds codes (close_of stop)

  module _ (day : ℤ) (is_day : IsDay day) (entries : List Obs) where
    value-holds : {A : Type 0} (code : ℕ) (value : Option ℤ) (f : ℤ → Result A Stop) → code < codes → ((x : ℤ) → StopHolds (f x)) → StopHolds (with_value code day value f)
    value-holds code None f below holds = (below, is_day)
    value-holds code (Some x) f below holds = holds x

    reading-holds : {A : Type 0} (own : List ℕ) → AreBelow own → (code : Option ℕ) → IsRead own code → (f : Option ℤ → Result A Stop) → ((x : Option ℤ) → StopHolds (f x)) → StopHolds (reading entries day code f)
    reading-holds own below None is f holds = holds None
    reading-holds own below (Some code) is f holds = value-holds code (observation entries code day) (λ x. f (Some x)) (one-below own below code is) (λ x. holds (Some x))

    reading_all-holds : {A : Type 0} (more : List ℕ) → AreBelow more → (f : List ℤ → Result A Stop) → ((xs : List ℤ) → StopHolds (f xs)) → StopHolds (reading_all entries day more f)
    unfolding reading_all
    reading_all-holds [] below f holds = holds []
    reading_all-holds (code ∷ more) below f holds =
        value-holds code (observation entries code day) (λ x. reading_all entries day more (λ xs. f (x ∷ xs))) below.0
        (λ x. reading_all-holds more below.1 (λ xs. f (x ∷ xs)) (λ xs. holds (x ∷ xs)))

    overflow-holds : {A : Type 0} (what : EventType) (value : Option A) → StopHolds (ok_or value (Overflow day what))
    overflow-holds what None = is_day
    overflow-holds what (Some value) = tt

  -- ---- steps

  step_by-holds : (own : List ℕ) → AreBelow own → (entries : List Obs) (factor : Option ℕ) → IsRead own factor → (event : Event) → IsDay event.day → (accrue : State → Option State) (line : StepLine) → LineReads own line →
      (s : State) → StopHolds (step_by entries factor event accrue line s)
  step_by-holds own below entries factor factors event is_day accrue line reads s =
      reading-holds event.day is_day entries own below (factor_code factor line.payoff) (factor-read own factor line.payoff factors) _ (λ x.
      reading-holds event.day is_day entries own below (payoff_code line.payoff) reads.payoff _ (λ value.
      reading-holds event.day is_day entries own below (change_code line.change) reads.change _ (λ more.
      overflow-holds event.day is_day entries event.kind (option_and_then (outcome line x value more) (accrue s)))))

  module _ (terms : Terms) (below : AreBelow (codes_of terms)) (plan : EventPlan) (entries : List Obs) (children : List Stream) (s : State) (event : Event) (is_day : IsDay event.day) (scales : ScalesWhereScaled terms.kind event) where
    line-holds : StopHolds (step_by_line terms plan entries children s event)
    line-holds =
        step_by-holds (codes_of terms) below entries (factor_for terms (is_own event.source)) (factor-in (codes_of terms) terms (is_own event.source) (λ code is. is)) event is_day (accrual_by terms.common terms.kind event)
        (unpaid (is_unpaid terms plan event) (line_by terms.common terms.kind plan children event))
        (unpaid-reads (codes_of terms) (is_unpaid terms plan event) _ (line-more (kind_codes terms.kind) (codes_of terms) (kind-in (codes_of terms) terms (λ code is. is)) _
        (kind-reads terms.common terms.kind plan children event scales))) s

    guarantee-holds : (what : EventType) (contract : Kind) → AreBelow (kind_codes contract) → StopHolds (guarantee_step_by what terms plan entries children s event contract)
    guarantee-holds type.XD (kind.CEG ceg) own =
        reading_all-holds event.day is_day entries (market_codes ceg) own _ (λ values. overflow-holds event.day is_day entries type.XD (after_credit_event event.day (covered_part ceg children event.day values) s))
    guarantee-holds type.XD (kind.CEC cec) own =
        reading_all-holds event.day is_day entries (market_codes cec.guarantee) (all-below (kind_codes (kind.CEC cec)) own (market_codes cec.guarantee) (λ code is. in_first (market_codes cec.guarantee) cec.covering code is)) _ (λ values.
        reading_all-holds event.day is_day entries cec.covering (all-below (kind_codes (kind.CEC cec)) own cec.covering (λ code is. in_second (market_codes cec.guarantee) cec.covering code is)) _ (λ worth.
        overflow-holds event.day is_day entries type.XD (after_credit_event event.day (lesser (covered_part cec.guarantee children event.day values) (sum_of_magnitudes worth)) s)))
    guarantee-holds what contract own = line-holds

    -- the stop of a contract's step can be printed
    pub step-stops : StopHolds (step_of terms plan entries children s event)
    unfolding step_of
    step-stops = guarantee-holds event.kind terms.kind (all-below (codes_of terms) below (kind_codes terms.kind) (kind-in (codes_of terms) terms (λ code is. is)))

-- the codes that a contract reads, where they are named
pub codes-below : (codes currencies : ℕ) (terms : Terms) → AreNamed codes currencies terms → AreBelow codes (codes_of terms)
codes-below codes currencies terms named = recursion_from_All (λ code. code < codes) (codes_of terms) named.codes_read

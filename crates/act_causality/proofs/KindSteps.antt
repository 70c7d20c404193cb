-- The step of any contract at a day before a change.
pub use Rattle.act_causality.specs.Causality.{HasCodes}
use Rattle.std.proofs.Common.{◌≡◌, ℕ, Bool, true, false, ℤ, List, Option, ◌∙◌, ap}
use Rattle.std.specs.Option.{ok_or}
use Rattle.act_model.specs.Run.{EventPlan, Stream}
use Rattle.act_model.specs.declared.event.Event.{Event}
use Rattle.act_model.specs.declared.event.EventType.{EventType}
use Rattle.act_model.specs.declared.event.EventType.TheVariants as type
use Rattle.act_model.specs.declared.observed.Obs.{Obs}
use Rattle.act_model.specs.declared.run.Stop.TheVariants.{Overflow}
use Rattle.act_model.specs.declared.state.State.{State}
use Rattle.act_model.specs.declared.terms.Kind.{Kind}
use Rattle.act_model.specs.declared.terms.Kind.TheVariants as kind
use Rattle.act_model.specs.declared.terms.Terms.{Terms}
use Rattle.act_profile.specs.Contract.{factor_of}
use Rattle.act_profile.specs.Credit.{after_credit_event, covered_part, market_codes, sum_of_magnitudes}
use Rattle.act_profile.specs.Formula.{lesser}
use Rattle.act_profile.specs.Order.{is_own}
use Rattle.act_profile.specs.Reads.{codes_of, given_code, kind_codes}
use Rattle.act_profile.specs.Step.{StepLine, step_by, unpaid}
use Rattle.act_profile.specs.Steps.{accrual_by, factor_for, guarantee_step_by, is_unpaid, line_by, step_by_line, step_of}
use Rattle.act_causality.specs.Causality.{HaveSameValues, StopsOnTheDay}
use Rattle.act_causality.proofs.Steps.{IsRead, LineReads, OnDay, given-read, in_first, in_second, line-more, on_day-stop, overflow-on_day, read-more, reading_all-agree, reading_all-on_day, step_by-agree, step_by-on_day, unpaid-reads}

-- ---- stops

line-on_day : (terms : Terms) (plan : EventPlan) (entries : List Obs) (children : List Stream) (s : State) (event : Event) → OnDay event.day (step_by_line terms plan entries children s event)
line-on_day terms plan entries children s event = step_by-on_day entries (factor_for terms (is_own event.source)) event (accrual_by terms.common terms.kind event) (unpaid (is_unpaid terms plan event) (line_by terms.common terms.kind plan children event)) s

guarantee-on_day : (terms : Terms) (plan : EventPlan) (entries : List Obs) (children : List Stream) (s : State) (event : Event) (what : EventType) (contract : Kind) →
    OnDay event.day (guarantee_step_by what terms plan entries children s event contract)
guarantee-on_day terms plan entries children s event type.XD (kind.CEG ceg) =
    reading_all-on_day entries event.day (market_codes ceg) _ (λ values. overflow-on_day event.day type.XD (after_credit_event event.day (covered_part ceg children event.day values) s))
guarantee-on_day terms plan entries children s event type.XD (kind.CEC cec) =
    reading_all-on_day entries event.day (market_codes cec.guarantee) _ (λ values.
    reading_all-on_day entries event.day cec.covering _ (λ worth.
    overflow-on_day event.day type.XD (after_credit_event event.day (lesser (covered_part cec.guarantee children event.day values) (sum_of_magnitudes worth)) s)))
guarantee-on_day terms plan entries children s event what contract = line-on_day terms plan entries children s event

-- a contract's step stops on the day of its event
pub stops_on_the_day : (terms : Terms) (plan : EventPlan) (entries : List Obs) (children : List Stream) → StopsOnTheDay (step_of terms plan entries children)
unfolding step_of
stops_on_the_day terms plan entries children = record {
  day = λ s event stop is. on_day-stop event.day (step_of terms plan entries children s event) stop (guarantee-on_day terms plan entries children s event event.kind terms.kind) is;
}

-- ---- lines

pub factor-in : (codes : List ℕ) (terms : Terms) (own : Bool) → HasCodes codes (codes_of terms) → IsRead codes (factor_for terms own)
factor-in codes terms true has =
    read-more (given_code (factor_of terms.common terms.kind)) codes
    (λ code is. has code (in_first (given_code (factor_of terms.common terms.kind)) (kind_codes terms.kind) code is)) (factor_of terms.common terms.kind) (given-read (factor_of terms.common terms.kind))
factor-in codes terms false has = tt

pub kind-in : (codes : List ℕ) (terms : Terms) → HasCodes codes (codes_of terms) → HasCodes codes (kind_codes terms.kind)
kind-in codes terms has code is = has code (in_second (given_code (factor_of terms.common terms.kind)) (kind_codes terms.kind) code is)

-- the covered part of a guarantee is the same over the children
abbrev pub SameCover : Kind → List Stream → List Stream → ℤ → Type 0
SameCover (kind.CEG ceg) children others day = (values : List ℤ) → covered_part ceg children day values ≡ covered_part ceg others day values
SameCover (kind.CEC cec) children others day = (values : List ℤ) → covered_part cec.guarantee children day values ≡ covered_part cec.guarantee others day values
SameCover contract children others day = Unit {0}

module _ (codes : List ℕ) (one other : List Obs) (event : Event) (values : HaveSameValues event.day codes one other) where
  -- the step of an event that has a line, where the line is the same over the children
  pub line_step-agree : (terms : Terms) (plan : EventPlan) (children others : List Stream) (s : State) → HasCodes codes (codes_of terms) →
      line_by terms.common terms.kind plan children event ≡ line_by terms.common terms.kind plan others event → LineReads (kind_codes terms.kind) (line_by terms.common terms.kind plan others event) →
      step_by_line terms plan one children s event ≡ step_by_line terms plan other others s event
  line_step-agree terms plan children others s has same reads =
      ap (λ (line : StepLine). step_by one (factor_for terms (is_own event.source)) event (accrual_by terms.common terms.kind event) (unpaid (is_unpaid terms plan event) line) s) same
      ∙ step_by-agree codes one other (factor_for terms (is_own event.source)) event (accrual_by terms.common terms.kind event)
      (unpaid (is_unpaid terms plan event) (line_by terms.common terms.kind plan others event)) s values (factor-in codes terms (is_own event.source) has)
      (unpaid-reads codes (is_unpaid terms plan event) _ (line-more (kind_codes terms.kind) codes (kind-in codes terms has) _ reads))

  -- the step of a credit event of a guarantee, where the covered part is the same over the children
  pub guarantee_step-agree : (what : EventType) (terms : Terms) (plan : EventPlan) (children others : List Stream) (s : State) (contract : Kind) →
      HasCodes codes (kind_codes contract) → SameCover contract children others event.day → step_by_line terms plan one children s event ≡ step_by_line terms plan other others s event →
      guarantee_step_by what terms plan one children s event contract ≡ guarantee_step_by what terms plan other others s event contract
  guarantee_step-agree type.XD terms plan children others s (kind.CEG ceg) has cover line =
      reading_all-agree event.day codes one other values (market_codes ceg) has _ _
      (λ xs. ap (λ (amount : Option ℤ). ok_or (after_credit_event event.day amount s) (Overflow event.day type.XD)) (cover xs))
  guarantee_step-agree type.XD terms plan children others s (kind.CEC cec) has cover line =
      reading_all-agree event.day codes one other values (market_codes cec.guarantee) (λ code is. has code (in_first (market_codes cec.guarantee) cec.covering code is)) _ _ (λ xs.
      reading_all-agree event.day codes one other values cec.covering (λ code is. has code (in_second (market_codes cec.guarantee) cec.covering code is)) _ _ (λ worth.
      ap (λ (amount : Option ℤ). ok_or (after_credit_event event.day (lesser amount (sum_of_magnitudes worth)) s) (Overflow event.day type.XD)) (cover xs)))
  guarantee_step-agree what terms plan children others s contract has cover line = line

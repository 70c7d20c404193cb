-- No step and no currency depends on the place of an observation.
use Rattle.std.proofs.Common.{◌≡◌, ℕ, Bool, true, ℤ, List, Option, Some, None, refl, sym, ◌∙◌, ap}
use Rattle.act_model.specs.Run.{EventPlan, Stream}
use Rattle.act_model.specs.declared.event.Event.{Event}
use Rattle.act_model.specs.declared.event.EventType.{EventType}
use Rattle.act_model.specs.declared.event.EventType.TheVariants as type
use Rattle.act_model.specs.declared.event.Source.{Source}
use Rattle.act_model.specs.declared.event.Source.TheVariants.{Observed}
use Rattle.act_model.specs.declared.observed.Obs.{Obs}
use Rattle.act_model.specs.declared.state.State.{State}
use Rattle.act_model.specs.declared.terms.Common.{Common}
use Rattle.act_model.specs.declared.terms.Kind.{Kind}
use Rattle.act_model.specs.declared.terms.Kind.TheVariants as kind
use Rattle.act_model.specs.declared.terms.Terms.{Terms}
use Rattle.act_profile.specs.Contract.{purchase_of}
use Rattle.act_profile.specs.Step.{StepLine, step_by, unpaid}
use Rattle.act_profile.specs.Steps.{accrual_by, currency_of, factor_for, guarantee_step_by, is_before, is_unpaid, line_by, step_by_line, step_of}
use Rattle.act_causality.specs.Causality.{unplaced, unplaced_source}

-- an event that was observed
abbrev seen : ℤ → ℤ → EventType → ℤ → ℕ → Event
seen day calc type value place = record { day = day; calc = calc; kind = type; value = value; source = Observed place }

seen_line : (common : Common) (contract : Kind) (plan : EventPlan) (children : List Stream) (day calc : ℤ) (type : EventType) (value : ℤ) (place : ℕ) →
    line_by common contract plan children (seen day calc type value 0) ≡ line_by common contract plan children (seen day calc type value place)
seen_line common (kind.PAM pam) plan children day calc type value place = refl
seen_line common (kind.LAM lam) plan children day calc type value place = refl
seen_line common (kind.NAM nam) plan children day calc type value place = refl
seen_line common (kind.ANN ann) plan children day calc type value place = refl
seen_line common (kind.STK stk) plan children day calc type value place = refl
seen_line common (kind.FXOUT fxout) plan children day calc type value place = refl
seen_line common (kind.SWPPV swppv) plan children day calc type value place = refl
seen_line common (kind.SWAPS swaps) plan children day calc type value place = refl
seen_line common (kind.CAPFL capfl) plan children day calc type value place = refl
seen_line common (kind.OPTNS optns) plan children day calc type value place = refl
seen_line common (kind.FUTUR futur) plan children day calc type value place = refl
seen_line common (kind.CEG ceg) plan children day calc type value place = refl
seen_line common (kind.CEC cec) plan children day calc type value place = refl

seen_accrual : (common : Common) (contract : Kind) (day calc : ℤ) (type : EventType) (value : ℤ) (place : ℕ) →
    accrual_by common contract (seen day calc type value 0) ≡ accrual_by common contract (seen day calc type value place)
seen_accrual common (kind.PAM pam) day calc type value place = refl
seen_accrual common (kind.LAM lam) day calc type value place = refl
seen_accrual common (kind.NAM nam) day calc type value place = refl
seen_accrual common (kind.ANN ann) day calc type value place = refl
seen_accrual common (kind.STK stk) day calc type value place = refl
seen_accrual common (kind.FXOUT fxout) day calc type value place = refl
seen_accrual common (kind.SWPPV swppv) day calc type value place = refl
seen_accrual common (kind.SWAPS swaps) day calc type value place = refl
seen_accrual common (kind.CAPFL capfl) day calc type value place = refl
seen_accrual common (kind.OPTNS optns) day calc type value place = refl
seen_accrual common (kind.FUTUR futur) day calc type value place = refl
seen_accrual common (kind.CEG ceg) day calc type value place = refl
seen_accrual common (kind.CEC cec) day calc type value place = refl

seen_unpaid : (terms : Terms) (plan : EventPlan) (purchase : Option ℤ) (day calc : ℤ) (type : EventType) (value : ℤ) (place : ℕ) →
    is_before terms plan purchase (seen day calc type value 0) ≡ is_before terms plan purchase (seen day calc type value place)
seen_unpaid terms plan None day calc type value place = refl
seen_unpaid terms plan (Some date) day calc type value place = refl

-- of an event a step by a line takes its day and its type
seen_step_by : (entries : List Obs) (factor : Option ℕ) (accrue : State → Option State) (line : StepLine) (s : State) (day calc : ℤ) (type : EventType) (value : ℤ) (place : ℕ) →
    step_by entries factor (seen day calc type value 0) accrue line s ≡ step_by entries factor (seen day calc type value place) accrue line s
seen_step_by entries factor accrue line s day calc type value place = refl

seen_step_by_line : (terms : Terms) (plan : EventPlan) (entries : List Obs) (children : List Stream) (s : State) (day calc : ℤ) (type : EventType) (value : ℤ) (place : ℕ) →
    step_by_line terms plan entries children s (seen day calc type value 0) ≡ step_by_line terms plan entries children s (seen day calc type value place)
seen_step_by_line terms plan entries children s day calc type value place =
    let first = seen day calc type value 0 in
    let event = seen day calc type value place in
    let factor = factor_for terms true in
    ap (λ (line : StepLine). step_by entries factor first (accrual_by terms.common terms.kind first) (unpaid (is_unpaid terms plan first) line) s) (seen_line terms.common terms.kind plan children day calc type value place)
    ∙ ap (λ (before : Bool). step_by entries factor first (accrual_by terms.common terms.kind first) (unpaid before (line_by terms.common terms.kind plan children event)) s) (seen_unpaid terms plan (purchase_of terms.common terms.kind) day calc type value place)
    ∙ ap (λ (accrue : State → Option State). step_by entries factor first accrue (unpaid (is_unpaid terms plan event) (line_by terms.common terms.kind plan children event)) s) (seen_accrual terms.common terms.kind day calc type value place)
    ∙ seen_step_by entries factor (accrual_by terms.common terms.kind event) (unpaid (is_unpaid terms plan event) (line_by terms.common terms.kind plan children event)) s day calc type value place

seen_step : (terms : Terms) (plan : EventPlan) (entries : List Obs) (children : List Stream) (s : State) (day calc : ℤ) (of value : EventType) (amount : ℤ) (place : ℕ) (contract : Kind) →
    guarantee_step_by of terms plan entries children s (seen day calc value amount 0) contract ≡ guarantee_step_by of terms plan entries children s (seen day calc value amount place) contract
seen_step terms plan entries children s day calc type.XD value amount place (kind.CEG ceg) = refl
seen_step terms plan entries children s day calc type.XD value amount place (kind.CEC cec) = refl
seen_step terms plan entries children s day calc of value amount place other = seen_step_by_line terms plan entries children s day calc value amount place

seen_currency : (common : Common) (contract : Kind) (children : List Stream) (day calc : ℤ) (type : EventType) (value : ℤ) (place : ℕ) →
    currency_of (record { common = common; kind = contract }) children (seen day calc type value 0) ≡ currency_of (record { common = common; kind = contract }) children (seen day calc type value place)
seen_currency common (kind.PAM pam) children day calc type value place = refl
seen_currency common (kind.LAM lam) children day calc type value place = refl
seen_currency common (kind.NAM nam) children day calc type value place = refl
seen_currency common (kind.ANN ann) children day calc type value place = refl
seen_currency common (kind.STK stk) children day calc type value place = refl
seen_currency common (kind.FXOUT fxout) children day calc type value place = refl
seen_currency common (kind.SWPPV swppv) children day calc type value place = refl
seen_currency common (kind.SWAPS swaps) children day calc type value place = refl
seen_currency common (kind.CAPFL capfl) children day calc type value place = refl
seen_currency common (kind.OPTNS optns) children day calc type value place = refl
seen_currency common (kind.FUTUR futur) children day calc type value place = refl
seen_currency common (kind.CEG ceg) children day calc type value place = refl
seen_currency common (kind.CEC cec) children day calc type value place = refl

abbrev from : ℤ → ℤ → EventType → ℤ → Source → Event
from day calc type value source = record { day = day; calc = calc; kind = type; value = value; source = source }

step_by_source : (terms : Terms) (plan : EventPlan) (entries : List Obs) (children : List Stream) (s : State) (day calc : ℤ) (type : EventType) (value : ℤ) (source : Source) →
    step_of terms plan entries children s (from day calc type value (unplaced_source source)) ≡ step_of terms plan entries children s (from day calc type value source)
unfolding step_of
step_by_source terms plan entries children s day calc type value (Observed place) = seen_step terms plan entries children s day calc type type value place terms.kind
step_by_source terms plan entries children s day calc type value other = refl

currency_by_source : (terms : Terms) (children : List Stream) (day calc : ℤ) (type : EventType) (value : ℤ) (source : Source) →
    currency_of terms children (from day calc type value (unplaced_source source)) ≡ currency_of terms children (from day calc type value source)
currency_by_source terms children day calc type value (Observed place) = seen_currency terms.common terms.kind children day calc type value place
currency_by_source terms children day calc type value other = refl

-- the step of an event without the place of its observation
pub step-unplaced : (terms : Terms) (plan : EventPlan) (entries : List Obs) (children : List Stream) (s : State) (event : Event) →
    step_of terms plan entries children s (unplaced event) ≡ step_of terms plan entries children s event
step-unplaced terms plan entries children s event = step_by_source terms plan entries children s event.day event.calc event.kind event.value event.source

pub currency-unplaced : (terms : Terms) (children : List Stream) (event : Event) → currency_of terms children (unplaced event) ≡ currency_of terms children event
currency-unplaced terms children event = currency_by_source terms children event.day event.calc event.kind event.value event.source

-- two events that are the same but for their places have the same steps and currencies
pub same_step : (terms : Terms) (plan : EventPlan) (entries : List Obs) (children : List Stream) (s : State) (event same : Event) → unplaced event ≡ unplaced same →
    step_of terms plan entries children s event ≡ step_of terms plan entries children s same
same_step terms plan entries children s event same is =
    sym (step-unplaced terms plan entries children s event) ∙ ap (step_of terms plan entries children s) is ∙ step-unplaced terms plan entries children s same

pub same_currency : (terms : Terms) (children : List Stream) (event same : Event) → unplaced event ≡ unplaced same → currency_of terms children event ≡ currency_of terms children same
same_currency terms children event same is =
    sym (currency-unplaced terms children event) ∙ ap (λ (e : Event). currency_of terms children e) is ∙ currency-unplaced terms children same

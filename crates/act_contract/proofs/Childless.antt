-- Contracts that read no children's runs: all but swaps of two contracts, caps and floors, and guarantees.
use Rattle.std.proofs.Common.{◌≡◌, Bool, true, false, List, [], Some, refl, sym, ap, ◌∙◌}
use Rattle.std.proofs.lemmas.Option.{none-some}
use Rattle.act_equity.specs.Kinds.{is_stock_or_outright}
use Rattle.act_model.specs.Kind.{type_of}
use Rattle.act_model.specs.Run.{EventPlan, Stream}
use Rattle.act_model.specs.declared.choice.ContractType.{ContractType}
use Rattle.act_model.specs.declared.choice.ContractType.TheVariants as type
use Rattle.act_model.specs.declared.event.Event.{Event}
use Rattle.act_model.specs.declared.event.EventType.{EventType}
use Rattle.act_model.specs.declared.event.EventType.TheVariants.{XD}
use Rattle.act_model.specs.declared.observed.Obs.{Obs}
use Rattle.act_model.specs.declared.state.State.{State}
use Rattle.act_model.specs.declared.terms.Common.{Common}
use Rattle.act_model.specs.declared.terms.Kind.{Kind}
use Rattle.act_model.specs.declared.terms.Kind.TheVariants as kind
use Rattle.act_model.specs.declared.terms.Terms.{Terms}
use Rattle.act_option.specs.Kinds.{is_exercised}
use Rattle.act_profile.specs.LoanTerms.{LoanTerms, loan_terms_of}
use Rattle.act_profile.specs.Order.{is_own}
use Rattle.act_profile.specs.Step.{StepLine, step_by, unpaid}
use Rattle.act_profile.specs.Steps.{accrual_by, factor_for, guarantee_step_by, is_unpaid, line_by, step_by_line, step_of}

-- contracts of the type read no child
abbrev pub is_childless : ContractType → Bool
is_childless type.SWAPS = false
is_childless type.CAPFL = false
is_childless type.CEG = false
is_childless type.CEC = false
is_childless other = true

-- ---- which do

-- a loan does not
pub loan : (common : Common) (contract : Kind) (l : LoanTerms) → loan_terms_of common contract ≡ Some l → is_childless (type_of contract) ≡ true
loan common (kind.SWAPS swaps) l is = absurd (none-some l is)
loan common (kind.CAPFL capfl) l is = absurd (none-some l is)
loan common (kind.CEG ceg) l is = absurd (none-some l is)
loan common (kind.CEC cec) l is = absurd (none-some l is)
loan common other l is = refl

pub equity : (t : ContractType) → is_stock_or_outright t ≡ true → is_childless t ≡ true
equity type.SWAPS is = absurd (cc)
equity type.CAPFL is = absurd (cc)
equity type.CEG is = absurd (cc)
equity type.CEC is = absurd (cc)
equity other is = refl

pub exercised : (t : ContractType) → is_exercised t ≡ true → is_childless t ≡ true
exercised type.SWAPS is = absurd (cc)
exercised type.CAPFL is = absurd (cc)
exercised type.CEG is = absurd (cc)
exercised type.CEC is = absurd (cc)
exercised other is = refl

-- ---- the steps

line_by-childless : (common : Common) (contract : Kind) (plan : EventPlan) (children : List Stream) (event : Event) → is_childless (type_of contract) ≡ true →
    line_by common contract plan children event ≡ line_by common contract plan [] event
line_by-childless common (kind.SWAPS swaps) plan children event is = absurd (cc)
line_by-childless common (kind.CAPFL capfl) plan children event is = absurd (cc)
line_by-childless common other plan children event is = refl

by_line : (type : EventType) (terms : Terms) (plan : EventPlan) (entries : List Obs) (children : List Stream) (s : State) (event : Event) (contract : Kind) → is_childless (type_of contract) ≡ true →
    guarantee_step_by type terms plan entries children s event contract ≡ step_by_line terms plan entries children s event
by_line XD terms plan entries children s event (kind.CEG ceg) is = absurd (cc)
by_line XD terms plan entries children s event (kind.CEC cec) is = absurd (cc)
by_line XD terms plan entries children s event contract is = refl
by_line type terms plan entries children s event contract is = refl

-- the step over no runs is the step over any
pub step_of-childless : (terms : Terms) (plan : EventPlan) (entries : List Obs) (children : List Stream) (s : State) (event : Event) → is_childless (type_of terms.kind) ≡ true →
    step_of terms plan entries [] s event ≡ step_of terms plan entries children s event
unfolding step_of
step_of-childless terms plan entries children s event is =
    let step = λ (line : StepLine). step_by entries (factor_for terms (is_own event.source)) event (accrual_by terms.common terms.kind event) (unpaid (is_unpaid terms plan event) line) s in
    by_line event.kind terms plan entries [] s event terms.kind is
    ∙ ap step (sym (line_by-childless terms.common terms.kind plan children event is))
    ∙ sym (by_line event.kind terms plan entries children s event terms.kind is)

-- The step of an event reads a book on the event's day alone, and of children's runs what is dated not after it.
use Rattle.std.proofs.Common.{ℤ, List, refl}
use Rattle.act_model.specs.Run.{EventPlan, Stream}
use Rattle.act_model.specs.declared.event.Event.{Event}
use Rattle.act_model.specs.declared.observed.Obs.{Obs}
use Rattle.act_model.specs.declared.terms.Kind.{Kind}
use Rattle.act_model.specs.declared.terms.Kind.TheVariants as kind
use Rattle.act_model.specs.declared.terms.Terms.{Terms}
use Rattle.act_profile.specs.Reads.{codes_of}
use Rattle.act_profile.specs.Steps.{step_of}
use Rattle.act_causality.specs.Causality.{StepReadsItsDay, StepReadsRowsUntilItsDay}
use Rattle.act_causality.proofs.Children.{cover-agree}
use Rattle.act_causality.proofs.KindSteps.{SameCover, guarantee_step-agree, kind-in, line_step-agree}
use Rattle.act_causality.proofs.LegRows.{HasRows, lines-agree}
use Rattle.act_causality.proofs.Lines.{kind-reads}
use Rattle.act_causality.proofs.Plans.{ScalesWhereScaled}

-- a credit event's cover over the same children
same_cover : (contract : Kind) (children : List Stream) (t : ℤ) → SameCover contract children children t
same_cover (kind.CEG ceg) children t = λ values. refl
same_cover (kind.CEC cec) children t = λ values. refl
same_cover other children t = tt

-- ---- a contract's events

-- the step of an event, where a scaling is one of a loan that is scaled
pub own-day : (terms : Terms) (plan : EventPlan) (event : Event) → ScalesWhereScaled terms.kind event → StepReadsItsDay terms plan event
unfolding step_of
own-day terms plan event scales one other runs values s =
    guarantee_step-agree (codes_of terms) one other event values event.kind terms plan runs runs s terms.kind (kind-in (codes_of terms) terms (λ code is. is)) (same_cover terms.kind runs event.day)
    (line_step-agree (codes_of terms) one other event values terms plan runs runs s (λ code is. is) refl (kind-reads terms.common terms.kind plan runs event scales))

-- the same over children's runs that agree before a later day, where the rows that the event names are there
pub until-day : (terms : Terms) (plan : EventPlan) (entries : List Obs) (runs : List Stream) (event : Event) → ScalesWhereScaled terms.kind event → HasRows terms.kind runs event → StepReadsRowsUntilItsDay terms plan entries runs event
unfolding step_of
until-day terms plan entries runs event scales rows day others early kids s =
    guarantee_step-agree (codes_of terms) entries entries event (λ code within. refl) event.kind terms plan runs others s terms.kind (kind-in (codes_of terms) terms (λ code is. is))
    (cover-agree day event.day early runs others kids terms.kind)
    (line_step-agree (codes_of terms) entries entries event (λ code within. refl) terms plan runs others s (λ code is. is)
    (lines-agree day runs others kids terms.common terms.kind plan event early rows) (kind-reads terms.common terms.kind plan others event scales))

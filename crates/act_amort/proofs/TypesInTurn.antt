-- The dates of redemptions among those of the types of events.
use Rattle.std.proofs.Common.{◌≡◌, ℤ, List, Some, Result, option_map}
use Rattle.std.specs.Global.{Vec}
use Rattle.act_kind.specs.Types.{IsAnswer}
use Rattle.act_model.specs.declared.event.EventType.TheVariants.{PR}
use Rattle.act_model.specs.declared.run.PlanFault.{PlanFault}
use Rattle.act_profile.specs.LoanPlan.{redemption_dates}
use Rattle.act_profile.specs.LoanTerms.{LoanTerms}
use Rattle.act_profile.specs.Planning.{Planned, shifting}

-- dates that are known
pub redemptions_are : (l : LoanTerms) (answer : Result (Vec Planned) PlanFault) (dates : List ℤ) → redemption_dates l ≡ Some dates → IsAnswer answer (Some (shifting PR dates)) →
    IsAnswer answer (option_map (shifting PR) (redemption_dates l))
redemptions_are l answer dates are is = rw are is

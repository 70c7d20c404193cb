-- The plan of a plain swap, by its events.
use Rattle.std.proofs.Common.{◌≡◌, List, Ok, Err, ap, ◌∙◌, refl}
use Rattle.act_model.specs.declared.event.Event.{Event}
use Rattle.act_model.specs.declared.run.PlanFault.{PlanFault}
use Rattle.act_model.specs.declared.terms.Common.{Common}
use Rattle.act_model.specs.declared.terms.Swppv.{Swppv}
use Rattle.act_profile.specs.Order.{in_order}
use Rattle.act_profile.specs.Outcomes.{map_ok}
use Rattle.act_profile.specs.Planning.{events_by_type}
use Rattle.act_profile.specs.Swap.{plain_swap_dates, plain_swap_plan}
use Rattle.act_profile.specs.Trade.{plain_plan}

pub plan_of_events : (common : Common) (swap : Swppv) (events sorted : List Event) → events_by_type common 0 (plain_swap_dates common swap) ≡ Ok events → sorted ≡ in_order events →
    plain_swap_plan common swap ≡ Ok (plain_plan sorted)
unfolding plain_swap_plan
plan_of_events common swap events sorted planned order = ap (map_ok (λ es. plain_plan (in_order es))) planned ∙ rw order refl

pub no_plan : (common : Common) (swap : Swppv) (fault : PlanFault) → events_by_type common 0 (plain_swap_dates common swap) ≡ Err fault → plain_swap_plan common swap ≡ Err fault
unfolding plain_swap_plan
no_plan common swap fault planned = ap (map_ok (λ es. plain_plan (in_order es))) planned

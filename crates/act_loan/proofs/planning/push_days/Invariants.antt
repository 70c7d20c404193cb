use Rattle.std.proofs.Common.{◌≡◌, ◌++◌, drop}
use Rattle.act_profile.specs.LoanPlan.{calculation_days}
use Rattle.act_profile.specs.Order.{is_type}
use Rattle.act_loan.proofs.planning.push_days.Given as goal

-- the days so far, and those that are left
abbrev pub invariant-loop-event : goal.invariant-loop-event
invariant-loop-event l =
    l.days.items ++ calculation_days (λ e. is_type e.kind l.kind) (drop l.event-index l.events) ≡ l.initial.days.items ++ calculation_days (λ e. is_type e.kind l.kind) l.events

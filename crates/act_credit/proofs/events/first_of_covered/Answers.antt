use Rattle.std.proofs.Common.{refl}
use Rattle.std.specs.List.{filter_map}
use Rattle.act_model.specs.Observed.{observed_events}
use Rattle.act_profile.specs.Credit.{credit_event_day}
use Rattle.act_profile.specs.Dates.{is_within}
use Rattle.act_credit.proofs.CreditDays.{first_turn}
use Rattle.act_credit.proofs.events.first_of_covered.Goals as goal

pub covered-preserved : goal.covered-preserved
covered-preserved g c =
    let guarantee = c.args.guarantee.now in
    rw (c.earlier-first.ensures)
    (first_turn (is_within c.args.status guarantee.maturity_date) (λ x. filter_map (credit_event_day guarantee.credit_event_type_covered) (observed_events (g.O.Observed.entries c.args.seen.now) x.contract))
    c.args.covered.now c.covered.contract-index c.contract-item.result c.covered.first c.first_credit_event-day.result c.covered-test.true c.contract-item.is c.covered.invariant
    (rw (c.first_credit_event-day.ensures, c.deref.ensures.value, c.in_ok-own.ensures) refl))

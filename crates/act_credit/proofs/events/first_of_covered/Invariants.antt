use Rattle.std.proofs.Common.{◌≡◌, take}
use Rattle.std.specs.List.{filter, filter_map, flat_map}
use Rattle.act_model.specs.Observed.{observed_events}
use Rattle.act_profile.specs.Credit.{credit_event_day}
use Rattle.act_profile.specs.Dates.{is_within, least}
use Rattle.act_credit.proofs.events.first_of_covered.Given as goal

abbrev pub invariant-covered : goal.invariant-covered
invariant-covered g l =
    l.first ≡ least (filter (is_within l.status l.guarantee.maturity_date)
    (flat_map (λ c. filter_map (credit_event_day l.guarantee.credit_event_type_covered) (observed_events (g.O.Observed.entries l.seen) c.contract)) (take l.contract-index l.covered)))

use Rattle.std.proofs.Common.{◌≡◌, take}
use Rattle.act_option.proofs.FirstExercise.{days_of}
use Rattle.act_profile.specs.Credit.{credit_event_day}
use Rattle.act_profile.specs.Dates.{is_within, least}
use Rattle.act_credit.proofs.events.first_credit_event.Given as goal

abbrev pub invariant-entries : goal.invariant-entries
invariant-entries l =
    l.first ≡ least (days_of (credit_event_day l.guarantee.credit_event_type_covered) (is_within l.status l.guarantee.maturity_date) (take l.entry-index l.entries))

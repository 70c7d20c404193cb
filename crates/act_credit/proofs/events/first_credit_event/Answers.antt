use Rattle.act_option.proofs.FirstExercise.{earliest_turn}
use Rattle.act_profile.specs.Credit.{credit_event_day}
use Rattle.act_profile.specs.Dates.{is_within}
use Rattle.act_credit.proofs.events.first_credit_event.Goals as goal

pub entries-preserved : goal.entries-preserved
entries-preserved c =
    rw (c.earlier-first.ensures, c.day_within.ensures)
    (earliest_turn (credit_event_day c.args.guarantee.now.credit_event_type_covered) (is_within c.args.status c.args.guarantee.now.maturity_date) c.args.entries.now c.entries.entry-index c.entry-item.result c.entries.first c.entries-test.true c.entry-item.is c.entries.invariant)

-- The facts on which the law stands.
use Rattle.std.proofs.Common.{◌≡◌, ◌∙◌, false, ℤ, int_lt, ◌≤ℤ◌, arith}
use Rattle.std.proofs.lemmas.Int.{ints}
use Rattle.act_date.specs.Civil.{last_day}
use Rattle.act_profile.specs.Events.{events_of}
use Rattle.act_causality.specs.Causality.{EventsStay, StepReadsItsDay, StepReadsRowsUntilItsDay, StepStays, StepsReadRowsUntilTheirDay, StepsReadTheirDay, StepsStay, StopsStay}
use Rattle.act_causality.proofs.KindEvents.{events-agree}
use Rattle.act_causality.proofs.KindRuns.{IsKnown, events-known, events-scale, step-agree}
use Rattle.act_causality.proofs.KindSteps.{stops_on_the_day}
use Rattle.act_causality.proofs.LegRows.{currencies-agree}
use Rattle.act_causality.proofs.OwnDay.{own-day, until-day}
use Rattle.act_causality.proofs.Places.{same_currency, same_step}
use Rattle.act_causality.proofs.Plans.{ScalesWhereScaled}
use Rattle.act_causality.proofs.Settled.{all-weaker}

pub not_after : (day last : ℤ) → day ≤ℤ last → int_lt last day ≡ false
not_after day last until = grind (arith, ints)

pub events_stay : EventsStay
events_stay day codes contracts terms plan one other runs others over = record {
  events = events-agree day codes contracts one other over.books (not_after day last_day over.until) terms plan runs others over.planned over.observes over.covers over.children over.pairs over.pairs2;
}

pub steps_stay : StepsStay
steps_stay day codes contracts terms plan one other runs others over =
    all-weaker (IsKnown terms.kind runs) (StepStays day terms plan one other runs others) (λ event known. record {
      step = λ s same early is. step-agree day codes contracts one other over.books (not_after day last_day over.until) terms plan runs others over.children over.reads s event early known ∙ same_step terms plan other others s event same is;
      paid_in = λ same early is. currencies-agree day runs others over.children terms event early known.rows ∙ same_currency terms others event same is;
    }) (events_of terms plan one runs) (events-known terms plan one runs over.planned over.pairs)

pub stops_stay : StopsStay
stops_stay terms plan entries runs = stops_on_the_day terms plan entries runs

pub steps_read_their_day : StepsReadTheirDay
steps_read_their_day terms plan entries children planned =
    all-weaker (ScalesWhereScaled terms.kind) (StepReadsItsDay terms plan) (own-day terms plan) (events_of terms plan entries children) (events-scale terms plan entries children planned)

pub steps_read_rows_until_their_day : StepsReadRowsUntilTheirDay
steps_read_rows_until_their_day terms plan entries runs planned pairs =
    all-weaker (IsKnown terms.kind runs) (StepReadsRowsUntilItsDay terms plan entries runs) (λ event known. until-day terms plan entries runs event known.scales known.rows)
    (events_of terms plan entries runs) (events-known terms plan entries runs planned pairs)

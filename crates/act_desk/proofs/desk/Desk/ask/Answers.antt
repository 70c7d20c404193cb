use Rattle.act_desk.specs.Calls.{Asks}
use Rattle.act_desk.proofs.Adds.{adds-ask}
use Rattle.act_desk.proofs.Taken.{IsTurn, goes-beside, is-step, may-give}
use Rattle.act_desk.proofs.Stays.{names-stay, present-stays}
use Rattle.std.proofs.Common.{ap, ◌∙◌}
use Rattle.act_model.specs.Journal.{is_known}
use Rattle.act_model.specs.declared.journal.Step.TheVariants.{Ask}
use Rattle.act_portfolio.specs.Reading.{Accepted}
use Rattle.act_desk.proofs.desk.Desk.ask.Goals.{After-ask-answer, After-get_mut}
use Rattle.act_desk.proofs.desk.Desk.ask.Goals as goal

call : (g : _) (c : After-ask-answer g) → Asks c.args.caller c.args.asked c.ask-answer.result c.get_mut.result.now c.ask-answer.new.self
call g c = record { taken = c.ask-answer.ensures.asked; number = c.ask-answer.ensures.number; given_up = c.ask-answer.ensures.given_up; full = c.ask-answer.ensures.full; unchanged = c.ask-answer.ensures.unchanged }

turn : (g : _) (c : After-get_mut g) → IsTurn c.args.pass.now c.take-held.new.pass c.take-held.result c.get_mut.result.now
turn g c = record { free = c.requires.free.1; begins = c.take-held.ensures.begins; own = c.take-held.ensures.own; pass = c.take-held.ensures.pass; value = c.get_mut.ensures.value }

pub ask-answer-requires-clause-known : goal.ask-answer-requires-clause-known
ask-answer-requires-clause-known g c =
    ap (λ (p : Accepted). is_known p.names (Ask c.args.asked)) (names-stay _ _ _ (goes-beside (turn g c) c.requires.own c.requires.known)) ∙ c.requires.known.holds

pub ask-answer-requires-clause-present : goal.ask-answer-requires-clause-present
ask-answer-requires-clause-present g c = present-stays _ _ _ (goes-beside (turn g c) c.requires.own c.requires.present) c.requires.present.holds

pub give-requires-clause-goes_on : goal.give-requires-clause-goes_on
give-requires-clause-goes_on g c = may-give (turn g (goal.at.give-requires-clause-goes_on g c).After-get_mut) (adds-ask c.requires.own c.args.asked _ (call g (goal.at.give-requires-clause-goes_on g c).After-ask-answer))

pub returns : goal.returns
returns g c = is-step (turn g (goal.at.returns g c).After-get_mut) (adds-ask c.requires.own c.args.asked _ (call g (goal.at.returns g c).After-ask-answer)) c.give.ensures (call g (goal.at.returns g c).After-ask-answer)

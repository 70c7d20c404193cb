use Rattle.act_desk.specs.Calls.{Appends}
use Rattle.act_desk.proofs.Adds.{adds-append}
use Rattle.act_desk.proofs.Taken.{IsTurn, goes-beside, is-step, may-give}
use Rattle.act_desk.proofs.Stays.{present-stays}
use Rattle.act_desk.proofs.desk.Desk.append.Goals.{After-append-answer, After-get_mut}
use Rattle.act_desk.proofs.desk.Desk.append.Goals as goal

turn : (g : _) (c : After-get_mut g) → IsTurn c.args.pass.now c.take-held.new.pass c.take-held.result c.get_mut.result.now
turn g c = record { free = c.requires.free.1; begins = c.take-held.ensures.begins; own = c.take-held.ensures.own; pass = c.take-held.ensures.pass; value = c.get_mut.ensures.value }

pub append-answer-requires-clause-present : goal.append-answer-requires-clause-present
append-answer-requires-clause-present g c = present-stays _ _ _ (goes-beside (turn g c) c.requires.own c.requires.present) c.requires.present.holds

call : (g : _) (c : After-append-answer g) → Appends c.args.caller c.args.entry c.append-answer.result c.get_mut.result.now c.append-answer.new.self
call g c = record { appended = c.append-answer.ensures.appended; version = c.append-answer.ensures.version; given_up = c.append-answer.ensures.given_up; spent = c.append-answer.ensures.spent; unchanged = c.append-answer.ensures.unchanged }

pub give-requires-clause-goes_on : goal.give-requires-clause-goes_on
give-requires-clause-goes_on g c = may-give (turn g (goal.at.give-requires-clause-goes_on g c).After-get_mut) (adds-append c.requires.own c.args.entry _ (call g (goal.at.give-requires-clause-goes_on g c).After-append-answer))

pub returns : goal.returns
returns g c = is-step (turn g (goal.at.returns g c).After-get_mut) (adds-append c.requires.own c.args.entry _ (call g (goal.at.returns g c).After-append-answer)) c.give.ensures (call g (goal.at.returns g c).After-append-answer)

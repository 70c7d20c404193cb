use Rattle.act_desk.specs.Calls.{ClaimsOrNot}
use Rattle.act_desk.proofs.Adds.{adds-claim, adds-nobodys}
use Rattle.act_desk.proofs.Taken.{IsTurn, is-step, may-give}
use Rattle.act_desk.proofs.desk.Desk.claim.Goals.{After-claim-answer, After-get_mut}
use Rattle.act_desk.proofs.desk.Desk.claim.Goals as goal

turn : (g : _) (c : After-get_mut g) → IsTurn c.args.pass.now c.take-held.new.pass c.take-held.result c.get_mut.result.now
turn g c = record { free = c.requires.1; begins = c.take-held.ensures.begins; own = c.take-held.ensures.own; pass = c.take-held.ensures.pass; value = c.get_mut.ensures.value }

call : (g : _) (c : After-claim-answer g) → ClaimsOrNot c.claim-answer.result c.get_mut.result.now c.claim-answer.new.self
call g c = record { claimed = c.claim-answer.ensures.claimed; memory = c.claim-answer.ensures.memory; unchanged = c.claim-answer.ensures.unchanged }

pub give-requires-clause-goes_on : goal.give-requires-clause-goes_on
give-requires-clause-goes_on g c = may-give (turn g (goal.at.give-requires-clause-goes_on g c).After-get_mut) (adds-nobodys (adds-claim _ _ _ (call g (goal.at.give-requires-clause-goes_on g c).After-claim-answer)))

pub returns : goal.returns
returns g c = is-step (turn g (goal.at.returns g c).After-get_mut) (adds-nobodys (adds-claim _ _ _ (call g (goal.at.returns g c).After-claim-answer))) c.give.ensures (call g (goal.at.returns g c).After-claim-answer)

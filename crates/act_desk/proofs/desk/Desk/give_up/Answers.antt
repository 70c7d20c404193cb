use Rattle.act_desk.proofs.Adds.{adds-give_up, adds-nobodys}
use Rattle.act_desk.proofs.Taken.{IsTurn, is-step, may-give}
use Rattle.act_desk.proofs.desk.Desk.give_up.Goals.{After-get_mut}
use Rattle.act_desk.proofs.desk.Desk.give_up.Goals as goal

turn : (g : _) (c : After-get_mut g) → IsTurn c.args.pass.now c.take-held.new.pass c.take-held.result c.get_mut.result.now
turn g c = record { free = c.requires.1; begins = c.take-held.ensures.begins; own = c.take-held.ensures.own; pass = c.take-held.ensures.pass; value = c.get_mut.ensures.value }

pub give-requires-clause-goes_on : goal.give-requires-clause-goes_on
give-requires-clause-goes_on g c = may-give (turn g (goal.at.give-requires-clause-goes_on g c).After-get_mut) (adds-nobodys (adds-give_up _ _ c.give_up.ensures))

pub returns : goal.returns
returns g c = is-step (turn g (goal.at.returns g c).After-get_mut) (adds-nobodys (adds-give_up _ _ c.give_up.ensures)) c.give.ensures c.give_up.ensures

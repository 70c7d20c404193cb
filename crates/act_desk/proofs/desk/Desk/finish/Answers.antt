use Rattle.act_desk.proofs.Adds.{adds-finish, adds-nobodys}
use Rattle.act_desk.proofs.Taken.{IsTurn, goes-beside, is-step, may-give}
use Rattle.act_desk.proofs.Stays.{work-stays}
use Rattle.std.proofs.Common.{refl}
use Rattle.act_desk.proofs.desk.Desk.finish.Goals.{After-get_mut}
use Rattle.act_desk.proofs.desk.Desk.finish.Goals as goal

turn : (g : _) (c : After-get_mut g) → IsTurn c.args.pass.now c.take-held.new.pass c.take-held.result c.get_mut.result.now
turn g c = record { free = c.requires.free.1; begins = c.take-held.ensures.begins; own = c.take-held.ensures.own; pass = c.take-held.ensures.pass; value = c.get_mut.ensures.value }

pub finish-requires : goal.finish-requires
finish-requires g c = work-stays _ _ _ (goes-beside (turn g c) refl c.requires.done) c.args.done c.requires.done.holds

pub give-requires-clause-goes_on : goal.give-requires-clause-goes_on
give-requires-clause-goes_on g c = may-give (turn g (goal.at.give-requires-clause-goes_on g c).After-get_mut) (adds-nobodys (adds-finish _ _ c.args.done c.finish.ensures))

pub returns : goal.returns
returns g c = is-step (turn g (goal.at.returns g c).After-get_mut) (adds-nobodys (adds-finish _ _ c.args.done c.finish.ensures)) c.give.ensures c.finish.ensures

use Rattle.std.proofs.Common.{refl}
use Rattle.act_desk.proofs.Taken.{IsTurn, goes-beside}
use Rattle.act_desk.proofs.Turns.{all-found, finishes-adds, is-turn, may-give-all, nobodys-own}
use Rattle.act_desk.proofs.desk.Desk.finish_all.Goals.{After-get_mut}
use Rattle.act_desk.proofs.desk.Desk.finish_all.Goals as goal

turn : (g : _) (c : After-get_mut g) → IsTurn c.args.pass.now c.take-held.new.pass c.take-held.result c.get_mut.result.now
turn g c = record { free = c.requires.free.1; begins = c.take-held.ensures.begins; own = c.take-held.ensures.own; pass = c.take-held.ensures.pass; value = c.get_mut.ensures.value }

pub finish_each-requires : goal.finish_each-requires
finish_each-requires g c = all-found _ _ _ _ (goes-beside (turn g (goal.at.finish_each-requires g c).After-get_mut) refl c.requires.dones) c.requires.dones.holds

pub give-requires-clause-goes_on : goal.give-requires-clause-goes_on
give-requires-clause-goes_on g c = may-give-all (turn g (goal.at.give-requires-clause-goes_on g c).After-get_mut) (nobodys-own _ _ _ (finishes-adds _ _ _ c.finish_each.ensures.finished))

pub returns-clause-turn : goal.returns-clause-turn
returns-clause-turn g c = is-turn (turn g (goal.at.returns-clause-turn g c).After-get_mut) (nobodys-own _ _ _ (finishes-adds _ _ _ c.finish_each.ensures.finished)) c.give.ensures c.finish_each.ensures.finished

use Rattle.std.proofs.Common.{refl}
use Rattle.act_desk.proofs.Watching.{given_up-seen, watched-give_up, watched-trans}
use Rattle.act_desk.proofs.desk.Desk.worker.Goals as goal

pub loop-preserved : goal.loop-preserved
loop-preserved g c = record { watched = watched-trans c.loop.invariant.watched c.work.ensures.watched; dones = c.in-Ok-None.ensures.dones }

pub returns-in-Err-clause-watched : goal.returns-in-Err-clause-watched
returns-in-Err-clause-watched g c =
    let worked = c.work.ensures.watched in
    watched-trans c.loop.invariant.watched (watched-trans worked (watched-give_up _ _ _ refl worked.history worked.seen c.give_up.ensures))

pub returns-in-Err-clause-given_up : goal.returns-in-Err-clause-given_up
returns-in-Err-clause-given_up g c =
    let worked = c.work.ensures.watched in
    given_up-seen _ _ _ refl worked.history worked.seen c.give_up.ensures

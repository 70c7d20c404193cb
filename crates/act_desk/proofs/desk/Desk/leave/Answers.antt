use Rattle.act_desk.proofs.Adds.{adds-leave}
use Rattle.act_desk.proofs.Taken.{IsTurn, goes-beside, is-step, may-give}
use Rattle.act_desk.proofs.Stays.{given_up-stays, open-stays, present-stays}
use Rattle.std.proofs.Common.{◌∙◌, ⊎_elim, inl, inr}
use Rattle.act_desk.proofs.desk.Desk.leave.Goals.{After-get_mut}
use Rattle.act_desk.proofs.desk.Desk.leave.Goals as goal

turn : (g : _) (c : After-get_mut g) → IsTurn c.args.pass.now c.take-held.new.pass c.take-held.result c.get_mut.result.now
turn g c = record { free = c.requires.free.1; begins = c.take-held.ensures.begins; own = c.take-held.ensures.own; pass = c.take-held.ensures.pass; value = c.get_mut.ensures.value }

pub leave-requires-clause-present : goal.leave-requires-clause-present
leave-requires-clause-present g c = present-stays _ _ _ (goes-beside (turn g c) c.requires.own c.requires.present) c.requires.present.holds

pub leave-requires-clause-done : goal.leave-requires-clause-done
leave-requires-clause-done g c =
    let beside = goes-beside (turn g c) c.requires.own c.requires.done in
    ⊎_elim (λ none. inl (open-stays _ _ _ beside ∙ none)) (λ gave_up. inr (given_up-stays _ _ _ beside gave_up)) c.requires.done.holds

pub give-requires-clause-goes_on : goal.give-requires-clause-goes_on
give-requires-clause-goes_on g c = may-give (turn g (goal.at.give-requires-clause-goes_on g c).After-get_mut) (adds-leave c.requires.own c.leave.ensures)

pub returns : goal.returns
returns g c = is-step (turn g (goal.at.returns g c).After-get_mut) (adds-leave c.requires.own c.leave.ensures) c.give.ensures c.leave.ensures

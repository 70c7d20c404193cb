use Rattle.act_desk.specs.Calls.{CollectsOrNot}
use Rattle.act_desk.proofs.Adds.{adds-collect}
use Rattle.act_desk.proofs.Taken.{IsTurn, goes-beside, is-step, may-give}
use Rattle.act_desk.proofs.Stays.{open-stays, present-stays}
use Rattle.std.proofs.Common.{◌<◌, List, length, sym, subst}
use Rattle.act_model.specs.declared.asks.Asking.{Asking}
use Rattle.act_desk.proofs.desk.Desk.collect.Goals.{After-collect-answer, After-get_mut}
use Rattle.act_desk.proofs.desk.Desk.collect.Goals as goal

turn : (g : _) (c : After-get_mut g) → IsTurn c.args.pass.now c.take-held.new.pass c.take-held.result c.get_mut.result.now
turn g c = record { free = c.requires.free.1; begins = c.take-held.ensures.begins; own = c.take-held.ensures.own; pass = c.take-held.ensures.pass; value = c.get_mut.ensures.value }

pub collect-answer-requires-clause-present : goal.collect-answer-requires-clause-present
collect-answer-requires-clause-present g c = present-stays _ _ _ (goes-beside (turn g c) c.requires.own c.requires.present) c.requires.present.holds

pub collect-answer-requires-clause-asked : goal.collect-answer-requires-clause-asked
collect-answer-requires-clause-asked g c =
    subst (λ (asks : List Asking). 0 < length asks) (sym (open-stays _ _ _ (goes-beside (turn g c) c.requires.own c.requires.asked))) c.requires.asked.holds

call : (g : _) (c : After-collect-answer g) → CollectsOrNot c.args.caller c.collect-answer.result c.get_mut.result.now c.collect-answer.new.self
call g c = record { collected = c.collect-answer.ensures.collected; memory = c.collect-answer.ensures.memory; unchanged = c.collect-answer.ensures.unchanged }

pub give-requires-clause-goes_on : goal.give-requires-clause-goes_on
give-requires-clause-goes_on g c = may-give (turn g (goal.at.give-requires-clause-goes_on g c).After-get_mut) (adds-collect c.requires.own _ (call g (goal.at.give-requires-clause-goes_on g c).After-collect-answer))

pub returns : goal.returns
returns g c = is-step (turn g (goal.at.returns g c).After-get_mut) (adds-collect c.requires.own _ (call g (goal.at.returns g c).After-collect-answer)) c.give.ensures (call g (goal.at.returns g c).After-collect-answer)

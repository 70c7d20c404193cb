use Rattle.std.proofs.Common.{◌∙◌, Ok, subst, sym}
use Rattle.std.specs.List.{All}
use Rattle.std.proofs.lemmas.List.Elements.{All-nil}
use Rattle.act_board.specs.Calls.{IsOf}
use Rattle.act_board.specs.declared.outcome.Collected.{Collected}
use Rattle.act_desk.specs.Calls.{CollectsOrNot}
use Rattle.act_desk.specs.Making.{HasWatched}
use Rattle.act_desk.specs.Step.{IsStep}
use Rattle.act_desk.proofs.Turns.{watched-all, watched-finishes}
use Rattle.act_desk.proofs.Watching.{if-err, watched-given_up, watched-no_memory, watched-not_yet, watched-open, watched-portfolio, watched-present, watched-trans}
use Rattle.act_desk.proofs.desk.Desk.collect_oldest.Goals.{In-NotYet}
use Rattle.act_desk.proofs.desk.Desk.collect_oldest.Goals as goal

-- where the answer isn't ready
not-yet : (g : _) (c : In-NotYet g) → HasWatched c.loop.pass c.collect.new.pass
not-yet g c =
    let watched = c.loop.invariant.watched in
    watched-not_yet c.args.caller _ _ (watched.number ∙ c.requires.at.own) watched.history watched.seen
    (subst (λ (answer : Collected). IsStep c.loop.pass (CollectsOrNot c.args.caller (Ok answer)) c.collect.new.pass) c.in-NotYet.is c.in_ok-answer.ensures)

so-far : (g : _) (c : In-NotYet g) → HasWatched c.args.pass.now c.collect.new.pass
so-far g c = watched-trans c.loop.invariant.watched (not-yet g c)

pub collect-requires-clause-present : goal.collect-requires-clause-present
collect-requires-clause-present g c = watched-present c.loop.invariant.watched c.requires.at.own c.requires.present

pub collect-requires-clause-asked : goal.collect-requires-clause-asked
collect-requires-clause-asked g c = watched-open c.loop.invariant.watched c.requires.at.own c.requires.open

pub returns-in_err-answer-clause-watched : goal.returns-in_err-answer-clause-watched
returns-in_err-answer-clause-watched g c =
    let watched = c.loop.invariant.watched in
    if-err c.from_residual.result (watched-trans watched (watched-no_memory c.args.caller _ _ (watched.number ∙ c.requires.at.own) watched.history watched.seen _ c.in_err-answer.ensures))

pub returns-in-GivenUp-clause-watched : goal.returns-in-GivenUp-clause-watched
returns-in-GivenUp-clause-watched g c =
    let watched = c.loop.invariant.watched in
    watched-trans watched
    (watched-given_up c.args.caller _ _ (watched.number ∙ c.requires.at.own) watched.history watched.seen
    (subst (λ (answer : Collected). IsStep c.loop.pass (CollectsOrNot c.args.caller (Ok answer)) c.collect.new.pass) c.in-GivenUp.is c.in_ok-answer.ensures))

pub work-requires-clause-portfolio : goal.work-requires-clause-portfolio
work-requires-clause-portfolio g c κs within = watched-portfolio (so-far g (goal.at.work-requires-clause-portfolio g c).In-NotYet) c.requires.at.portfolio

pub work-requires-clause-dones : goal.work-requires-clause-dones
work-requires-clause-dones g c κs within = watched-all c.loop.dones.items (not-yet g (goal.at.work-requires-clause-dones g c).In-NotYet) c.loop.invariant.dones

pub returns-in_err-work-in-NotYet-clause-watched : goal.returns-in_err-work-in-NotYet-clause-watched
returns-in_err-work-in-NotYet-clause-watched g c =
    if-err c.from_residual-in_err-work-in-NotYet.result (watched-trans (so-far g (goal.at.returns-in_err-work-in-NotYet-clause-watched g c).In-NotYet) c.work.ensures.watched)

pub loop-preserved-in-Made : goal.loop-preserved-in-Made
loop-preserved-in-Made g c =
    let finished = watched-finishes _ _ _ c.finish_all.ensures.turn in
    record {
      watched = watched-trans (so-far g (goal.at.loop-preserved-in-Made g c).In-NotYet) (watched-trans c.work.ensures.watched finished);
      dones = record {
        history = finished.history;
        seen = finished.seen;
        holds = subst (All (IsOf finished.history)) (sym c.finish_all.ensures.none) (All-nil (IsOf finished.history));
      };
    }

pub loop-preserved-in-None-2 : goal.loop-preserved-in-None-2
loop-preserved-in-None-2 g c = record {
  watched = watched-trans (so-far g (goal.at.loop-preserved-in-None-2 g c).In-NotYet) c.work.ensures.watched;
  dones = c.in_ok-work-in-NotYet.ensures.dones;
}

pub loop-preserved : goal.loop-preserved
loop-preserved g c = record {
  watched = watched-trans (so-far g (goal.at.loop-preserved g c).In-NotYet) c.work.ensures.watched;
  dones = c.in_ok-work-in-NotYet.ensures.dones;
}

use Rattle.std.proofs.Common.{rules, ◌+◌, refl, take}
use Rattle.act_desk.specs.Making.{IsMaking}
use Rattle.act_desk.proofs.Lines.{full-open, making-steps, steps-taken, steps-within}
use Rattle.act_desk.proofs.Making.{making-as}
use Rattle.act_desk.proofs.Way.{making-at}
use Rattle.act_desk.proofs.Watching.{if-err}
use Rattle.act_desk.proofs.desk.Desk.make_lines.Goals.{After-make_steps-turn}
use Rattle.act_desk.proofs.desk.Desk.make_lines.Goals as goal

-- the caller on its way, with the steps of one turn more
made : (g : _) (c : After-make_steps-turn g)
    → IsMaking g.A.FromAnswer.kept_of c.args.pass.now c.args.caller (take (c.loop.made + c.make_steps-turn.result.steps) c.args.lines.now) c.loop.answers.items c.make_steps-turn.new.pass
made g c =
    making-as (steps-taken c.loop.made _ c.make_steps-turn.result.steps c.args.lines.now c.make_steps-turn.ensures.calls.within) refl refl
    (making-steps (making-at c.loop.invariant.making c.requires.at).free.1 c.loop.invariant.making c.make_steps-turn.ensures)

pub make_steps-turn-requires-clause-free : goal.make_steps-turn-requires-clause-free
make_steps-turn-requires-clause-free g c = (making-at c.loop.invariant.making c.requires.at).free

pub loop-preserved-in-None-fault : goal.loop-preserved-in-None-fault
loop-preserved-in-None-fault g c = record {
  making = made g (goal.at.loop-preserved-in-None-fault g c).After-make_steps-turn;
  within = steps-within c.loop.made _ c.make_steps-turn.result.steps c.args.lines.now c.loop.invariant.within c.make_steps-turn.ensures.calls.within;
}

pub collect_half-requires-clause-way : goal.collect_half-requires-clause-way
collect_half-requires-clause-way g c κs within = (c.args.pass.now, c.args.lines.now, take (c.loop.made + c.make_steps-turn.result.steps) c.args.lines.now, c.requires.at, c.requires.lines, made g (goal.at.collect_half-requires-clause-way g c).After-make_steps-turn)

pub collect_half-requires-clause-open : goal.collect_half-requires-clause-open
collect_half-requires-clause-open g c κs within =
    full-open c.requires.lines c.loop.made _ (made g (goal.at.collect_half-requires-clause-open g c).After-make_steps-turn) c.make_steps-turn.ensures (search rules)

pub returns-in_err-collect_half-in-Some-Ask-AsksFull-clause-some : goal.returns-in_err-collect_half-in-Some-Ask-AsksFull-clause-some
returns-in_err-collect_half-in-Some-Ask-AsksFull-clause-some g c =
    if-err c.from_residual.result (
      c.loop.made + c.make_steps-turn.result.steps,
      c.collect_half.ensures c.args.pass.now c.args.lines.now _ c.requires.lines (made g (goal.at.returns-in_err-collect_half-in-Some-Ask-AsksFull-clause-some g c).After-make_steps-turn),
    )

pub loop-preserved : goal.loop-preserved
loop-preserved g c = record {
  making = c.collect_half.ensures c.args.pass.now c.args.lines.now _ c.requires.lines (made g (goal.at.loop-preserved g c).After-make_steps-turn);
  within = steps-within c.loop.made _ c.make_steps-turn.result.steps c.args.lines.now c.loop.invariant.within c.make_steps-turn.ensures.calls.within;
}

pub returns-in-Some-fault-clause-some : goal.returns-in-Some-fault-clause-some
returns-in-Some-fault-clause-some g c = (c.loop.made + c.make_steps-turn.result.steps, made g (goal.at.returns-in-Some-fault-clause-some g c).After-make_steps-turn)

use Rattle.std.proofs.Common.{◌≡◌, List, Some, sym, subst}
use Rattle.std.specs.List.{All}
use Rattle.std.proofs.lemmas.List.Elements.{All-pop, All-push}
use Rattle.act_board.specs.Calls.{IsOf}
use Rattle.act_keeping.specs.Work.{Work}
use Rattle.act_desk.proofs.working.make_all.Goals as goal

pub gated-requires-clause-portfolio : goal.gated-requires-clause-portfolio
gated-requires-clause-portfolio g c κs within =
    (All-pop (λ (work : Work). c.args.portfolio.now ≡ work.portfolio) c.loop-task.tasks.items c.pop.new.self.items (Some c.in-Some.task) c.in-Some.ensures.items c.loop-task.invariant.portfolio).1

pub loop-task-preserved : goal.loop-task-preserved
loop-task-preserved g c = record {
  portfolio = (All-pop (λ (work : Work). c.args.portfolio.now ≡ work.portfolio) c.loop-task.tasks.items c.pop.new.self.items (Some c.in-Some.task) c.in-Some.ensures.items c.loop-task.invariant.portfolio).0;
  kept = λ history tasks dones.
      let had = c.loop-task.invariant.kept history tasks dones in
      let popped = All-pop (IsOf history) c.loop-task.tasks.items c.pop.new.self.items (Some c.in-Some.task) c.in-Some.ensures.items had.0 in (
        popped.0,
        subst (λ (works : List Work). All (IsOf history) works) (sym c.in_ok-push-in-Ok.ensures.items)
            (All-push (IsOf history) c.loop-task.dones.items c.in-Ok.done had.1 (subst (IsOf history) (sym c.in-Ok.ensures) popped.1)),
      );
}

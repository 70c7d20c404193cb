use Rattle.act_turn.specs.Standing.{IsFree}
use Rattle.cases_desks.proofs.waking.Round.first_task.Given as goal

abbrev pub invariant-loop : goal.invariant-loop
invariant-loop g l = IsFree l.self.desk.now.id l.pass

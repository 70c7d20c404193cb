use Rattle.std.specs.List.{All}
use Rattle.act_board.specs.Calls.{IsOf}
use Rattle.act_desk.specs.Making.{HasWatched}
use Rattle.act_desk.specs.Step.{HasSeen}
use Rattle.act_desk.proofs.desk.Desk.worker.Given as goal

abbrev pub invariant-loop : goal.invariant-loop
invariant-loop g l = record {
  watched : HasWatched l.fn.pass l.pass;
  dones : HasSeen l.pass (λ history. All (IsOf history) l.dones.items);
}

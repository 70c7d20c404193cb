use Rattle.std.proofs.Common.{◌≡◌, List, ◌++◌, vec_len}
use Rattle.std.specs.List.{All}
use Rattle.act_board.specs.Calls.{IsOf}
use Rattle.act_keeping.specs.Work.{Work}
use Rattle.act_desk.specs.Calls.{Finishes}
use Rattle.act_desk.specs.Turns.{FromLast}
use Rattle.act_desk.proofs.steps.finish_each.Given as goal

abbrev pub invariant-loop-done : goal.invariant-loop-done
invariant-loop-done l = record {
  gone : (works : List Work) × (l.fn.dones.items ≡ l.dones.items ++ works) × FromLast Finishes works l.fn.board l.board;
  rest : All (IsOf l.board) l.dones.items;
}

abbrev pub decreases-loop-done : goal.decreases-loop-done
decreases-loop-done l = vec_len l.dones

use Rattle.std.proofs.Common.{◌≡◌, vec_len}
use Rattle.std.specs.List.{All}
use Rattle.act_board.specs.Calls.{IsOf}
use Rattle.act_history.specs.History.{History}
use Rattle.act_keeping.specs.Work.{Work}
use Rattle.act_desk.proofs.working.make_all.Given as goal

abbrev pub invariant-loop-task : goal.invariant-loop-task
invariant-loop-task g l = record {
  portfolio : All (λ (work : Work). l.portfolio ≡ work.portfolio) l.tasks.items;
  kept : (history : History) → All (IsOf history) l.fn.tasks.items → All (IsOf history) l.fn.dones.items → All (IsOf history) l.tasks.items × All (IsOf history) l.dones.items;
}

abbrev pub decreases-loop-task : goal.decreases-loop-task
decreases-loop-task g l = vec_len l.tasks

abbrev pub ghosts-gated : goal.ghosts-gated
ghosts-gated g a = record { name = a.blank.name; parts = a.blank.parts }

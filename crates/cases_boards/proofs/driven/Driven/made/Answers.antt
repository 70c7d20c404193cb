use Rattle.cases_boards.proofs.Driving.{driven-fewer}
use Rattle.cases_boards.proofs.driven.Driven.made.Goals as goal

pub invariant_of-self-then-version-ne0 : goal.invariant_of-self-then-version-ne0
invariant_of-self-then-version-ne0 c =
    (driven-fewer c.self.inside.board _ _ c.self.inside.tasks.items c.swap_remove_back.new.self.items c.in_ok-task.task _ c.in_ok-task.ensures.permutation c.self.invariant).0

pub invariant_of-self-2 : goal.invariant_of-self-2
invariant_of-self-2 c =
    (driven-fewer c.self.inside.board _ _ c.self.inside.tasks.items c.swap_remove_back.new.self.items c.in_ok-task.task _ c.in_ok-task.ensures.permutation c.self.invariant).0

use Rattle.act_keeping.specs.Work.{version}
use Rattle.cases_boards.proofs.Driving.{driven-fewer, driven-finished, driven-same}
use Rattle.cases_boards.proofs.driven.Driven.finish.Goals as goal

pub invariant_of-self-in-Ok : goal.invariant_of-self-in-Ok
invariant_of-self-in-Ok c =
    let rest = c.swap_remove_back.new.self.items in
    driven-same _ _ _ _ _ _ c.finish.ensures
    (driven-finished c.self.inside.board c.in-Ok.done.contract (version c.in-Ok.done) _ _ _ _ (driven-fewer c.self.inside.board _ _ c.self.inside.tasks.items rest c.in_ok-task.task _ c.in_ok-task.ensures.permutation c.self.invariant).0)

pub invariant_of-self-in-Err : goal.invariant_of-self-in-Err
invariant_of-self-in-Err c =
    let rest = c.swap_remove_back.new.self.items in
    (driven-fewer c.self.inside.board _ _ c.self.inside.tasks.items rest c.in_ok-task.task _ c.in_ok-task.ensures.permutation c.self.invariant).0

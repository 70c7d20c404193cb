use Rattle.std.proofs.Common.{ap}
use Rattle.cases_boards.proofs.Driving.{driven-given-up, driven-same, driven-without}
use Rattle.cases_boards.proofs.driven.Driven.give_up.Goals as goal

pub invariant_of-self : goal.invariant_of-self
invariant_of-self c =
    let task = c.swap_remove_back-task in
    driven-same _ _ _ _ _ _ c.give_up.ensures
    (driven-given-up c.self.inside.board _ _ _ _ (driven-without task.result c.self.inside.board _ _ c.self.inside.tasks.items task.new.self.items c.self.inside.given_up task.ensures.permutation task.ensures.unchanged (λ same. ap (λ tasks. tasks.items) same) c.self.invariant))

use Rattle.std.proofs.Common.{List, sym, subst}
use Rattle.std.specs.Arc.{arc_value}
use Rattle.act_board.specs.Calls.{Claims}
use Rattle.act_keeping.specs.Work.{Work}
use Rattle.act_board.specs.declared.outcome.Claim.{Claim}
use Rattle.cases_boards.specs.Driven.{IsDriven}
use Rattle.cases_boards.proofs.Driving.{driven-claimed, driven-claims}
use Rattle.cases_boards.proofs.driven.Driven.claim.Goals as goal

pub invariant_of-self-in_default : goal.invariant_of-self-in_default
invariant_of-self-in_default c =
    subst (λ (held : List Work). IsDriven c.claim.new.self (arc_value c.self.inside.portfolio) c.self.inside.left.items held c.self.inside.given_up) (sym c.in_default.ensures.items)
    (driven-claims c.in_ok-task.field-0 c.self.inside.board c.claim.new.self _ _ _ _ c.in_ok-task.ensures.claimed c.self.invariant)

pub invariant_of-self-in-Task : goal.invariant_of-self-in-Task
invariant_of-self-in-Task c =
    subst (λ (held : List Work). IsDriven c.claim.new.self (arc_value c.self.inside.portfolio) c.self.inside.left.items held c.self.inside.given_up) (sym c.in-Ok.ensures.items)
    (driven-claimed c.in-Task.task c.self.inside.board c.claim.new.self _ _ _ _ (subst (λ (k : Claim). Claims c.self.inside.board k c.claim.new.self) c.in-Task.is c.in_ok-task.ensures.claimed) c.self.invariant)

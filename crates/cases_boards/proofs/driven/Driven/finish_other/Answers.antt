use Rattle.act_keeping.specs.Work.{version}
use Rattle.cases_boards.proofs.Driving.{driven-finished, driven-same, of-none}
use Rattle.cases_boards.proofs.driven.Driven.finish_other.Goals as goal

pub finish-requires : goal.finish-requires
finish-requires c = of-none c.self.inside.board _ _ _ _ _ c.in-Some.ensures.portfolio c.in-Some.ensures.entries c.self.invariant

pub invariant_of-self : goal.invariant_of-self
invariant_of-self c =
    driven-same _ _ _ _ _ _ c.finish.ensures (driven-finished c.self.inside.board c.in-Some.done.contract (version c.in-Some.done) _ _ _ _ c.self.invariant)

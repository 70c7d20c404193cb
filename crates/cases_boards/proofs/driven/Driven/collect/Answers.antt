use Rattle.cases_boards.proofs.Driving.{driven-collect}
use Rattle.cases_boards.proofs.driven.Driven.collect.Goals as goal

pub invariant_of-self : goal.invariant_of-self
invariant_of-self c =
    driven-collect c.collect.result c.args.caller c.self.inside.board c.collect.new.self _ _ _ _ c.collect.ensures.collected c.collect.ensures.unchanged c.self.invariant

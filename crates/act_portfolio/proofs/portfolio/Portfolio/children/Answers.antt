use Rattle.std.proofs.Common.{◌<◌, length}
use Rattle.std.specs.List.{All}
use Rattle.act_cones.proofs.Orders.{list_at}
use Rattle.act_portfolio.proofs.portfolio.Portfolio.children.Goals as goal

pub returns-clause-numbered : goal.returns-clause-numbered
returns-clause-numbered c =
    let within = rw (← c.self.view_is) at c.requires.contract in
    rw (c.deref.ensures.value, ← c.self.view_is)
    (list_at (All (λ child. child < length c.self.inside.terms.items)) c.self.inside.children.items _ c.args.contract c.index.result.now c.self.invariant.accepted.children within c.index.ensures c.self.invariant.accepted.numbered)

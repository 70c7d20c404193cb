use Rattle.act_portfolio.proofs.Unrolling.{over-children}
use Rattle.act_portfolio.proofs.portfolio.runs_are_over_children.Goals as goal

pub returns : goal.returns
returns c = over-children

use Rattle.std.proofs.Common.{subst}
use Rattle.std.proofs.lemmas.List.{take_all}
use Rattle.std.proofs.lemmas.List.Elements.{All-more}
use Rattle.std.specs.List.{All}
use Rattle.act_model.specs.Bounds.{AreBounded}
use Rattle.act_portfolio.proofs.graph.are_bounded.Goals as goal

pub loop-contract-preserved : goal.loop-contract-preserved
loop-contract-preserved c =
    All-more AreBounded c.args.terms.now c.loop-contract.contract-index c.contract-item.result c.loop-contract-test.true c.loop-contract.invariant (subst AreBounded c.contract-item.is c.are_bounded.ensures)

pub returns : goal.returns
returns c = subst (All AreBounded) (take_all c.loop-contract.contract-index c.args.terms.now c.loop-contract-test.false) c.loop-contract.invariant

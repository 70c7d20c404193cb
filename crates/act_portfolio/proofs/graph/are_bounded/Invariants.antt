use Rattle.std.proofs.Common.{take}
use Rattle.std.specs.List.{All}
use Rattle.act_model.specs.Bounds.{AreBounded}
use Rattle.act_portfolio.proofs.graph.are_bounded.Given as goal

-- those so far are
abbrev pub invariant-loop-contract : goal.invariant-loop-contract
invariant-loop-contract l = All AreBounded (take l.contract-index l.terms)

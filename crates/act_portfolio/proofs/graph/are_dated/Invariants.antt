use Rattle.std.proofs.Common.{take}
use Rattle.std.specs.List.{All}
use Rattle.act_model.specs.Bounds.{IsDated}
use Rattle.act_portfolio.proofs.graph.are_dated.Given as goal

-- those so far are
abbrev pub invariant-loop-plan : goal.invariant-loop-plan
invariant-loop-plan l = All IsDated (take l.plan-index l.plans)

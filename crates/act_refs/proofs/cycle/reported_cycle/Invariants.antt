use Rattle.std.proofs.Common.{ℕ, ◌<◌}
use Rattle.act_refs.specs.Path.{OnCycle, child_lists}
use Rattle.act_refs.proofs.cycle.reported_cycle.Given as goal

-- the contracts so far are on no cycle
abbrev pub invariant-contracts : goal.invariant-contracts
invariant-contracts l = (contract : ℕ) → contract < l.contract → ¬ (OnCycle (child_lists l.children) contract)

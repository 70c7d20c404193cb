use Rattle.std.proofs.Common.{ℕ, ◌<◌, None, IsSome, slice_index_or}
use Rattle.act_refs.proofs.depth.first_unknown.Given as goal

-- the depths of the contracts below this one are known
abbrev pub invariant-loop-contract : goal.invariant-loop-contract
invariant-loop-contract l = (k : ℕ) → k < l.contract → IsSome (slice_index_or l.depths k None)

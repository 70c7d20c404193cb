use Rattle.std.proofs.Common.{◌≡◌, ℕ, ◌||◌, false, slice_index_or, take}
use Rattle.act_profile.specs.Reads.{is_in}
use Rattle.act_keeping.proofs.reached.mark.Given as goal

-- those before this one are marked too
abbrev pub invariant-loop-contract : goal.invariant-loop-contract
invariant-loop-contract l = (c : ℕ) → slice_index_or l.below c false ≡ (slice_index_or l.fn.below c false || is_in (take l.contract-index l.contracts) c)

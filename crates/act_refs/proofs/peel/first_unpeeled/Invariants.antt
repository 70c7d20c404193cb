use Rattle.std.proofs.Common.{◌≡◌, ℕ, ◌<◌, ◌≤◌, true, false, get_or}
use Rattle.act_refs.proofs.peel.first_unpeeled.Given as goal

abbrev pub invariant-loop-k : goal.invariant-loop-k
invariant-loop-k l = (k : ℕ) → l.from ≤ k → k < l.k → get_or l.peeled (get_or l.contracts k 0) false ≡ true

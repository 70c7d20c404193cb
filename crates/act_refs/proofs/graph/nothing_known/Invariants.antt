use Rattle.std.proofs.Common.{◌≡◌, None, replicate}
use Rattle.act_refs.proofs.graph.nothing_known.Given as goal

abbrev pub invariant-loop-contract : goal.invariant-loop-contract
invariant-loop-contract l = l.known.items ≡ replicate l._contract None

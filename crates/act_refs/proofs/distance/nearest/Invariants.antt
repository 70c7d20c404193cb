use Rattle.std.proofs.Common.{MatchOption}
use Rattle.act_refs.specs.Distance.{HaveNone, IsNearest}
use Rattle.act_refs.proofs.distance.nearest.Given as goal

abbrev pub invariant-loop-contract : goal.invariant-loop-contract
invariant-loop-contract l =
    MatchOption l.nearest (HaveNone l.contracts l.distances l.contract-index) (λ nearest. IsNearest l.contracts l.distances l.contract-index nearest.0 nearest.1)

use Rattle.std.proofs.Common.{◌≡◌, drop, map}
use Rattle.act_refusal.proofs.NamedSoFar.{IsNamedTo}
use Rattle.act_refusal.proofs.names.name_contracts.Given as goal

abbrev pub invariant-loop-place : goal.invariant-loop-place
invariant-loop-place l = record {
  so_far : IsNamedTo (map (λ c. c.id) l.named) (map (λ c. c.id) (drop l.place l.named)) l.names.contracts l.place;
  others : l.names ≡ record l.fn.names { contracts = l.names.contracts };
}

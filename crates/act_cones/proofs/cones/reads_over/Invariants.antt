use Rattle.std.proofs.Common.{◌≡◌, map, slice_get, take}
use Rattle.std.specs.List.{filter_map, flat_map}
use Rattle.act_profile.specs.Contract.{observed_as}
use Rattle.act_profile.specs.Reads.{codes_of}
use Rattle.act_cones.proofs.cones.reads_over.Given as goal

-- what the contracts before the place read
abbrev pub invariant-loop-contract : goal.invariant-loop-contract
invariant-loop-contract l = record {
  codes : l.codes.items ≡ flat_map codes_of (filter_map (slice_get l.contracts.terms) (take l.contract-index l.cone));
  observed : l.observed.items ≡ map (λ terms. observed_as terms.common) (filter_map (slice_get l.contracts.terms) (take l.contract-index l.cone));
}

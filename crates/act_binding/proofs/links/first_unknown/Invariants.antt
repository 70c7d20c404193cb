use Rattle.std.proofs.Common.{◌≡◌, drop}
use Rattle.act_binding.specs.Links.{unknown_in}
use Rattle.act_cones.proofs.Lists.{first_of}
use Rattle.act_binding.proofs.links.first_unknown.Given as goal

-- those before the place are to contracts that are there
abbrev pub invariant-loop-reference : goal.invariant-loop-reference
invariant-loop-reference l =
    first_of (λ r. unknown_in l.listing r.object) l.references ≡ first_of (λ r. unknown_in l.listing r.object) (drop l.reference-index l.references)

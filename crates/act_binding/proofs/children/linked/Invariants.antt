use Rattle.std.proofs.Common.{◌≡◌, take}
use Rattle.std.specs.List.{filter_map}
use Rattle.act_binding.specs.Links.{contract_of}
use Rattle.act_binding.proofs.children.linked.Given as goal

abbrev pub invariant-loop-reference : goal.invariant-loop-reference
invariant-loop-reference l = l.contracts.items ≡ filter_map (λ r. contract_of l.listing r.object) (take l.reference-index l.references)

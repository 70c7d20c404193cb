use Rattle.std.proofs.Common.{◌≡◌, take}
use Rattle.std.specs.List.{filter_map}
use Rattle.act_binding.specs.Links.{covering_of}
use Rattle.act_binding.proofs.binding.all_covering.Given as goal

abbrev pub invariant-loop-reference : goal.invariant-loop-reference
invariant-loop-reference l = l.covering.items ≡ filter_map (covering_of l.listing) (take l.reference-index l.references)

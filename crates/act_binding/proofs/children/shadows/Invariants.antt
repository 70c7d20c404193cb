use Rattle.std.proofs.Common.{◌≡◌, take}
use Rattle.std.specs.List.{filter_map, zip}
use Rattle.act_binding.specs.Binding.{shadow_of}
use Rattle.act_binding.proofs.children.shadows.Given as goal

abbrev pub invariant-loop-place : goal.invariant-loop-place
invariant-loop-place l = l.shadows.items ≡ filter_map (shadow_of l.listing) (take l.place (zip l.named l.numbers))

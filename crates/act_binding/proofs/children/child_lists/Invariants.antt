use Rattle.std.proofs.Common.{◌≡◌, map, take}
use Rattle.std.specs.List.{zip}
use Rattle.act_binding.specs.Binding.{children_of}
use Rattle.act_binding.proofs.children.child_lists.Given as goal

abbrev pub invariant-loop-place : goal.invariant-loop-place
invariant-loop-place l = map (λ l. l.items) l.lists.items ≡ map (children_of l.listing) (take l.place (zip l.named l.numbers))

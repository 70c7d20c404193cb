use Rattle.std.proofs.Common.{◌≡◌, ◌++◌, [], map, take}
use Rattle.act_binding.proofs.children.add_childless.Given as goal

abbrev pub invariant-loop-shadow : goal.invariant-loop-shadow
invariant-loop-shadow l =
    map (λ l. l.items) l.lists.items ≡ map (λ l. l.items) l.fn.lists.items ++ map (λ shadow. []) (take l._shadow-index l.shadows)

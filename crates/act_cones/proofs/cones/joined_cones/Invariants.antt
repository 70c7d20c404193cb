use Rattle.std.proofs.Common.{[], ◌∷◌, get_or, map, take}
use Rattle.std.specs.List.{flat_map}
use Rattle.act_cones.specs.Cones.{AreSeen, HaveSame}
use Rattle.act_cones.proofs.cones.joined_cones.Given as goal

-- what is marked was reached, and that is the contract and the cones of the children before the place
abbrev pub invariant-loop-child : goal.invariant-loop-child
invariant-loop-child l = record {
  seen : AreSeen l.seen.items l.reached.items;
  reached : HaveSame l.reached.items (l.contract ∷ flat_map (λ child. get_or (map (λ c. c.items) l.cones) child []) (take l.child-index l.children));
}

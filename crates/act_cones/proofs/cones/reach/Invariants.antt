use Rattle.std.proofs.Common.{◌++◌, take}
use Rattle.act_cones.specs.Cones.{AreSeen, HaveSame}
use Rattle.act_cones.proofs.cones.reach.Given as goal

-- what is marked was reached, and what was reached is what was before with the first of the cone
abbrev pub invariant-loop-one : goal.invariant-loop-one
invariant-loop-one l = record {
  seen : AreSeen l.seen.items l.reached.items;
  reached : HaveSame l.reached.items (l.initial.reached.items ++ take l.one-index l.cone);
}

use Rattle.std.proofs.Common.{◌≡◌, ◌++◌, map, All, vec_len}
use Rattle.act_turn.specs.Standing.{IsFree}
use Rattle.act_turn.specs.declared.view.Stage.TheVariants.{Away}
use Rattle.act_turn.specs.Turn.{member_of}
use Rattle.act_turn.proofs.turn.Turn.gather.Given as goal

-- what is left of the list, and what was joint_view, are all passes in their order
abbrev pub invariant-loop-pass : goal.invariant-loop-pass
invariant-loop-pass g l = record {
  seat : l.all.table_id ≡ l.self.id;
  away : l.all.me.0.stage ≡ Away;
  free : All (IsFree l.self.id) l.passes.items;
  passes : map member_of l.passes.items ++ l.all.me.0.members ≡ map member_of l.fn.passes.items;
}

abbrev pub decreases-loop-pass : goal.decreases-loop-pass
decreases-loop-pass g l = vec_len l.passes

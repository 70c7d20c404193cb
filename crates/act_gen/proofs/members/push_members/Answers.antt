use Rattle.act_gen.proofs.Loops.{one_member_more}
use Rattle.act_gen.proofs.members.push_members.Goals as goal

pub members-preserved : goal.members-preserved
members-preserved c = one_member_more _ _ _ _ c.args.members.now c.members.place _ c.members-test.true c.members.invariant c.in_ok-push_comma.ensures c.in_ok-push_member.ensures

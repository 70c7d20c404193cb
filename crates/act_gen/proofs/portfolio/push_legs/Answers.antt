use Rattle.act_gen.proofs.Texts.{two_put}
use Rattle.act_gen.proofs.portfolio.push_legs.Goals as goal

pub returns : goal.returns
returns c = two_put _ _ _ _ _ _ _ _ _ _ _ c.in_ok-push.ensures.items c.in_ok-push_leg.ensures c.in_ok-push-2.ensures.items c.in_ok-push_leg-2.ensures c.in_ok-push-3.ensures.items

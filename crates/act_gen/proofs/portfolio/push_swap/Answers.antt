use Rattle.std.proofs.Common.{refl, arith}
use Rattle.std.specs.Prelude.{codes}
use Rattle.act_gen.specs.Json.{member}
use Rattle.act_gen.specs.Portfolio.{legs, swap, swap_terms}
use Rattle.act_gen.proofs.Texts.{last_put}
use Rattle.act_gen.proofs.portfolio.push_swap.Goals as goal

pub returns : goal.returns
unfolding swap
returns c =
    last_put _ _ _ _ _ _ _ _ _ _ (swap_terms c.args.number) (member (codes "contractStructure") (legs c.args.number)) (omega arith) refl
    c.in_ok-push.ensures.items c.in_ok-push_members.ensures c.in_ok-extend_from_slice.ensures.items c.in_ok-push_legs.ensures c.in_ok-push-2.ensures.items

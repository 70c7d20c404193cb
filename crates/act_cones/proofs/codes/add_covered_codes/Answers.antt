use Rattle.act_cones.proofs.Weighed.{one_more_given}
use Rattle.act_cones.proofs.codes.add_covered_codes.Goals as goal

pub loop-one-preserved : goal.loop-one-preserved
loop-one-preserved c =
    one_more_given (λ c. c.market) c.args.covered.now c.loop-one.one-index c.one-item.result c.args.codes.now.items _ _ c.loop-one-test.true c.one-item.is c.loop-one.invariant c.in_ok-add_given.ensures

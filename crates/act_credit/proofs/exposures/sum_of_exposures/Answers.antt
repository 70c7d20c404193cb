use Rattle.std.proofs.Common.{map}
use Rattle.std.specs.Arc.{arc_value}
use Rattle.act_credit.specs.Amounts.{exposure_on}
use Rattle.act_credit.proofs.Sums.{sum_more}
use Rattle.act_credit.proofs.exposures.sum_of_exposures.Goals as goal

pub covered-preserved : goal.covered-preserved
covered-preserved c =
    rw (c.plus-sum.ensures, c.exposure_on.ensures)
    (sum_more (exposure_on c.args.exposure (map arc_value c.args.children.now) c.args.day) c.args.covered.now c.covered.contract-index c.contract-item.result c.covered.sum c.covered-test.true c.contract-item.is c.covered.invariant)

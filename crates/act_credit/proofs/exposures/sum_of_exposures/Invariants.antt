use Rattle.std.proofs.Common.{◌≡◌, map, take}
use Rattle.std.specs.Arc.{arc_value}
use Rattle.act_credit.specs.Amounts.{exposure_on}
use Rattle.act_profile.specs.Credit.{sum_of}
use Rattle.act_credit.proofs.exposures.sum_of_exposures.Given as goal

abbrev pub invariant-covered : goal.invariant-covered
invariant-covered l = l.sum ≡ sum_of (map (exposure_on l.exposure (map arc_value l.children) l.day) (take l.contract-index l.covered))

use Rattle.std.proofs.Common.{take}
use Rattle.act_model.specs.Observed.{rates_until}
use Rattle.act_model.proofs.LatestRates.{IsLatestOf}
use Rattle.act_model.proofs.observed.value.Given as goal

abbrev pub invariant-loop-entry : goal.invariant-loop-entry
invariant-loop-entry l = IsLatestOf (rates_until (take l.entry-index l.entries) l.code l.until) l.latest

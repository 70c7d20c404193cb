use Rattle.std.proofs.Common.{◌≡◌, ◌++◌, length}
use Rattle.act_json.specs.Quoting.{quoted}
use Rattle.act_json.proofs.quoting.quote.Given as goal

abbrev pub invariant-stretches : goal.invariant-stretches
invariant-stretches l = l.text.items ++ quoted l.rest ≡ quoted l.bytes

abbrev pub decreases-stretches : goal.decreases-stretches
decreases-stretches l = length l.rest

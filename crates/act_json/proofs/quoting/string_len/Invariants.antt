use Rattle.std.proofs.Common.{◌≡◌, ◌≤◌, ◌+◌, ◌-◌, length, drop}
use Rattle.act_json.specs.Quoting.{string_len}
use Rattle.act_json.proofs.quoting.string_len.Given as goal

abbrev pub invariant-bytes : goal.invariant-bytes
invariant-bytes l = record {
  within : l.len ≤ length l.inside;
  passed : string_len l.inside ≡ l.len + string_len (drop l.len l.inside);
}

abbrev pub decreases-bytes : goal.decreases-bytes
decreases-bytes l = length l.inside - l.len

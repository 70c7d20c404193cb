use Rattle.std.proofs.Common.{◌≡◌, ◌≤◌, ◌-◌, ◌++◌, length, take, drop}
use Rattle.act_json.specs.Quoting.{quoted}
use Rattle.act_json.proofs.quoting.len_before_number.Given as goal

abbrev pub invariant-pieces : goal.invariant-pieces
invariant-pieces l = record {
  within : l.len ≤ length l.text;
  copied : quoted l.text ≡ take l.len l.text ++ quoted (drop l.len l.text);
}

abbrev pub decreases-pieces : goal.decreases-pieces
decreases-pieces l = length l.text - l.len

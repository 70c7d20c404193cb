use Rattle.std.proofs.Common.{◌≡◌, ◌≤◌, ◌-◌, suc, length, take}
use Rattle.act_audit.specs.Text.{last_line_at}
use Rattle.act_audit.proofs.text.last_line_at.Given as goal

-- no line feed stands from this place on, but for the last byte
abbrev pub invariant-bytes : goal.invariant-bytes
invariant-bytes l = record {
  within : l.at ≤ length l.bytes - 1;
  same : last_line_at l.bytes ≡ last_line_at (take (suc l.at) l.bytes);
}

abbrev pub decreases-bytes : goal.decreases-bytes
decreases-bytes l = l.at

use Rattle.std.proofs.Common.{◌≡◌, ◌≤◌, ◌+◌, ◌-◌, drop, length}
use Rattle.std.specs.Prelude.{nat_eq}
use Rattle.std.specs.List.{common_prefix_len}
use Rattle.act_audit.proofs.text.common_len.Given as goal

-- so many bytes are alike
abbrev pub invariant-bytes : goal.invariant-bytes
invariant-bytes l = record {
  within_text : l.same ≤ length l.text;
  within_right : l.same ≤ length l.right;
  alike : l.same + common_prefix_len nat_eq (drop l.same l.text) (drop l.same l.right) ≡ common_prefix_len nat_eq l.text l.right;
}

abbrev pub decreases-bytes : goal.decreases-bytes
decreases-bytes l = length l.text - l.same

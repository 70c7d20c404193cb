use Rattle.std.proofs.Common.{◌≡◌, ◌+◌, ◌≤◌, ◌++◌, drop, length}
use Rattle.act_binding.specs.Binding.{shadow_numbers}
use Rattle.act_binding.proofs.children.shadow_numbers.Given as goal

abbrev pub invariant-loop-contract : goal.invariant-loop-contract
invariant-loop-contract l = record {
  all : l.numbers.items ++ shadow_numbers l.next (drop l.contract-index l.named) ≡ shadow_numbers (length l.named) l.named;
  within : l.next ≤ length l.named + l.contract-index;
}

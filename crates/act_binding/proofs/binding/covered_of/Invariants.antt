use Rattle.std.proofs.Common.{◌≡◌, ◌≤◌, ◌++◌, drop}
use Rattle.act_binding.specs.Binding.{covered_of}
use Rattle.act_binding.proofs.Bound.{covered_from}
use Rattle.act_binding.proofs.binding.covered_of.Given as goal

-- those covered before the place, and those behind it
abbrev pub invariant-loop-reference : goal.invariant-loop-reference
invariant-loop-reference l = record {
  all : l.covered.items ++ covered_from l.listing l.plans l.child (drop l.reference-index l.references) ≡ covered_of l.listing l.plans l.references;
  within : l.child ≤ l.reference-index;
}

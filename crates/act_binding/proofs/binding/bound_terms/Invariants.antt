use Rattle.std.proofs.Common.{◌≡◌, map}
use Rattle.act_binding.specs.Binding.{bind}
use Rattle.act_binding.proofs.binding.bound_terms.Given as goal

abbrev pub invariant-loop-contract : goal.invariant-loop-contract
invariant-loop-contract l = l.terms.items ≡ map (λ b. record { common = b.0.terms.common; kind = bind b.1 b.0.terms.kind }) l.yielded

use Rattle.std.proofs.Common.{◌≡◌, length, map, take}
use Rattle.std.specs.List.{zip}
use Rattle.act_binding.specs.Binding.{bind, bound}
use Rattle.act_binding.proofs.binding.bindings.Given as goal

abbrev pub invariant-loop-place : goal.invariant-loop-place
invariant-loop-place l = record {
  count : length l.bindings.items ≡ l.place;
  bound : map (λ b. bind b.1 b.0.terms.kind) (zip (take l.place l.named) l.bindings.items) ≡ map (λ c. (bound l.listing l.plans c).kind) (take l.place (zip l.named l.numbers));
}

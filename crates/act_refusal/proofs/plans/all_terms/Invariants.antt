use Rattle.std.proofs.Common.{◌≡◌, ◌++◌, map, take}
use Rattle.act_refusal.proofs.plans.all_terms.Given as goal

abbrev pub invariant-loop-contract : goal.invariant-loop-contract
invariant-loop-contract l = map (λ t. t.now) l.terms.items ≡ map (λ c. c.terms) (take l.contract-index l.named)

abbrev pub invariant-loop-shadow : goal.invariant-loop-shadow
invariant-loop-shadow l = map (λ t. t.now) l.terms.items ≡ map (λ c. c.terms) l.named ++ take l.shadow-index l.shadows

use Rattle.std.proofs.Common.{rules, refl}
use Rattle.act_terms.proofs.WithoutWant.{needed_text}
use Rattle.act_terms.proofs.contract.type_given.Goals as goal

pub returns-in-Some : goal.returns-in-Some
returns-in-Some c = rw (needed_text (λ t. t.now) _ _ _ _ c.in_ok-text.ensures (λ want. refl), ← c.in-Some.ensures) refl

pub returns-in-None : goal.returns-in-None
returns-in-None c = rw (needed_text (λ t. t.now) _ _ _ _ c.in_ok-text.ensures (λ want. refl), ← c.in-None.ensures) (search rules)

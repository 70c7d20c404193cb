use Rattle.std.proofs.Common.{◌≡◌, [], ◌∷◌, ◌++◌, ℕ, List, map, refl, ap, sym, ◌∙◌}
use Rattle.act_model.specs.declared.terms.Capfl.{Capfl}
use Rattle.act_model.specs.declared.terms.Kind.{Kind}
use Rattle.act_model.specs.declared.terms.Kind.TheVariants as kind
use Rattle.act_binding.specs.Binding.{children_by}
use Rattle.act_binding.specs.Links.{Linked, linked}
use Rattle.act_binding.proofs.Shadowed.{linked_contracts}
use Rattle.act_binding.proofs.children.children_of.Goals as goal
use Rattle.act_binding.proofs.children.children_of.Goals.{in-CAPFL+in_ok-push, in_default}

with_shadow : (k : Kind) (capfl : Capfl) (shadow : ℕ) (children : List ℕ) → k ≡ kind.CAPFL capfl → children_by k shadow children ≡ children ++ shadow ∷ []
with_shadow k capfl shadow children is = rw is refl

without_shadow : (k : Kind) (shadow : ℕ) (children : List ℕ) → ((capfl : Capfl) → k ≡ kind.CAPFL capfl → ⊥) → children_by k shadow children ≡ children
without_shadow (kind.CAPFL capfl) shadow children not = absurd (not capfl refl)
without_shadow other shadow children not = refl

pub returns : goal.returns
returns c =
    let n = c.args.number in
    let seen = ap (λ m. children_by m.terms.kind n (map (λ (l : Linked). l.1) (linked c.args.listing.now m.references))) c.contract.view_is in
    let children : c.in_ok-children.children.items ≡ map (λ (l : Linked). l.1) (linked c.args.listing.now c.contract.inside.references.items) =
    c.in_ok-children.ensures ∙ rw c.deref.ensures.value (sym (linked_contracts c.args.listing.now c.contract.inside.references.items)) in
    elim c.match-contract.branch [
      | in-CAPFL+in_ok-push w ↦ ap (λ v. v.items) w.children-is ∙ w.in_ok-push.ensures.items ∙ ap (λ l. l ++ n ∷ []) children ∙ sym (with_shadow _ _ n _ w.in-CAPFL.is) ∙ seen
      | in_default w ↦ ap (λ v. v.items) w.children-is ∙ children ∙ sym (without_shadow _ n _ w.in_default.not-CAPFL) ∙ seen
    ]

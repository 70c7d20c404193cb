use Rattle.std.proofs.Common.{ap, sym, ◌∙◌, append-nil}
use Rattle.act_binding.specs.Links.{contract_of}
use Rattle.act_cones.proofs.Lists.{kept_with}
use Rattle.act_binding.proofs.children.linked.Goals as goal
use Rattle.act_binding.proofs.children.linked.Goals.{in-Some+in_ok-push, in_default}

pub loop-reference-preserved : goal.loop-reference-preserved
loop-reference-preserved c =
    let seen = ap (λ r. contract_of c.args.listing.now r.object) c.reference.view_is in
    let made = c.contract_of.ensures ∙ seen in
    let with = kept_with (λ r. contract_of c.args.listing.now r.object) c.args.references.now c.loop-reference.reference-index c.reference-item.result c.loop-reference.contracts.items in
    elim c.match-contract_of.branch [
      | in-Some+in_ok-push w ↦ with _ _ c.loop-reference-test.true c.reference-item.is c.loop-reference.invariant (w.in-Some.ensures ∙ seen) (ap (λ v. v.items) w.contracts-is ∙ w.in_ok-push.ensures.items)
      | in_default w ↦ with _ _ c.loop-reference-test.true c.reference-item.is c.loop-reference.invariant (w.in_default.ensures ∙ seen) (ap (λ v. v.items) w.contracts-is ∙ sym (append-nil _))
    ]

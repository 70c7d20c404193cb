use Rattle.std.proofs.Common.{ap, sym, ◌∙◌, append-nil}
use Rattle.act_binding.specs.Links.{covering_of}
use Rattle.act_cones.proofs.Lists.{kept_with}
use Rattle.act_binding.proofs.binding.all_covering.Goals as goal
use Rattle.act_binding.proofs.binding.all_covering.Goals.{in-Some+in_ok-push, in_default}

pub loop-reference-preserved : goal.loop-reference-preserved
loop-reference-preserved c =
    let with = kept_with (covering_of c.args.listing.now) c.args.references.now c.loop-reference.reference-index c.reference-item.result c.loop-reference.covering.items in
    elim c.match-covering_of.branch [
      | in-Some+in_ok-push w ↦ with _ _ c.loop-reference-test.true c.reference-item.is c.loop-reference.invariant w.in-Some.ensures (ap (λ v. v.items) w.covering-is ∙ w.in_ok-push.ensures.items)
      | in_default w ↦ with _ _ c.loop-reference-test.true c.reference-item.is c.loop-reference.invariant w.in_default.ensures (ap (λ v. v.items) w.covering-is ∙ sym (append-nil _))
    ]

use Rattle.std.proofs.Common.{◌++◌, [], ap, ◌∙◌, arith}
use Rattle.std.proofs.lemmas.List.{at_drop_all}
use Rattle.std.specs.List.{cons_option}
use Rattle.act_model.proofs.Lists.{next_of}
use Rattle.act_binding.specs.Binding.{covered_at}
use Rattle.act_binding.specs.Links.{contract_of}
use Rattle.act_binding.proofs.Bound.{all_covered, none_covered, one_covered}
use Rattle.act_binding.proofs.binding.covered_of.Goals as goal
use Rattle.act_binding.proofs.binding.covered_of.Goals.{in-Some+in_ok-add_covered, in_default}

pub loop-reference-preserved : goal.loop-reference-preserved
loop-reference-preserved c =
    let here = next_of c.args.references.now c.loop-reference.reference-index c.reference-item.result c.loop-reference-test.true c.reference-item.is in
    let seen = ap (λ r. contract_of c.args.listing.now r.object) c.reference.view_is in
    let within = c.loop-reference.invariant.within in
    elim c.match-contract_of.branch [
      | in-Some+in_ok-add_covered w ↦
          let n = w.in-Some.contract in
          let k = c.loop-reference.child in
          let now = w.in_ok-add_covered.ensures ∙ ap (λ role. c.loop-reference.covered.items ++ cons_option (covered_at c.args.listing.now c.args.plans.now (k, (role, n))) []) (ap (λ r. r.role) c.reference.view_is) in
          rw (w.covered-is, w.child-is) (record {
            all = one_covered _ _ _ _ _ k n _ _ c.reference-item.result c.loop-reference.invariant.all here (w.in-Some.ensures ∙ seen) now;
            within = omega arith;
          })
      | in_default w ↦ rw (w.covered-is, w.child-is) (record {
        all = none_covered _ _ _ _ _ _ _ c.reference-item.result c.loop-reference.invariant.all here (w.in_default.ensures ∙ seen);
        within = omega arith;
      })
    ]

pub returns : goal.returns
returns c = all_covered _ _ _ _ _ _ c.loop-reference.invariant.all (at_drop_all (λ rs. rs) _ _ c.loop-reference-test.false)

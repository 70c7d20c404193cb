use Rattle.std.proofs.Common.{map, slice_get, ap, sym, ◌∙◌}
use Rattle.std.specs.List.{flat_map}
use Rattle.act_profile.specs.Contract.{observed_as}
use Rattle.act_profile.specs.Reads.{codes_of}
use Rattle.act_cones.proofs.Weighed.{joined_one, kept_none, mapped_one}
use Rattle.act_cones.proofs.cones.reads_over.Goals as goal
use Rattle.act_cones.proofs.cones.reads_over.Goals.{in-Some+in_ok-add_codes+in_ok-push, in_default}

pub loop-contract-preserved : goal.loop-contract-preserved
loop-contract-preserved c =
    let find = slice_get c.args.contracts.now.terms in
    let cone = c.args.cone.now in
    let i = c.loop-contract.contract-index in
    let within = c.loop-contract-test.true in
    elim c.match-terms_at.branch [
      | in-Some+in_ok-add_codes+in_ok-push w ↦
          record {
            codes = joined_one find cone i codes_of w.in-Some.terms.now c.loop-contract.codes.items _ within w.in-Some.ensures c.loop-contract.invariant.codes (ap (λ v. v.items) w.codes-is ∙ w.in_ok-add_codes.ensures);
            observed = mapped_one find cone i (λ terms. observed_as terms.common) w.in-Some.terms.now w.observed_as.result c.loop-contract.observed.items _ within w.in-Some.ensures c.loop-contract.invariant.observed
                w.observed_as.ensures (ap (λ v. v.items) w.observed-is ∙ w.in_ok-push.ensures.items);
          }
      | in_default w ↦
          let same = sym (kept_none find cone i within w.in_default.ensures) in
          record {
            codes = ap (λ v. v.items) w.codes-is ∙ (c.loop-contract.invariant.codes ∙ ap (flat_map codes_of) same);
            observed = ap (λ v. v.items) w.observed-is ∙ (c.loop-contract.invariant.observed ∙ ap (map (λ terms. observed_as terms.common)) same);
          }
    ]

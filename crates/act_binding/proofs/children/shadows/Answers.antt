use Rattle.std.proofs.Common.{ap, sym, refl, ◌∙◌, append-nil}
use Rattle.std.specs.List.{filter_map, zip}
use Rattle.act_binding.specs.Binding.{shadow_of}
use Rattle.act_cones.proofs.Lists.{all_pairs, kept_with, pair_at, within_pairs}
use Rattle.act_binding.proofs.children.shadows.Goals as goal
use Rattle.act_binding.proofs.children.shadows.Goals.{in-Some+in_ok-push, in_default}

pub loop-place-preserved : goal.loop-place-preserved
loop-place-preserved c =
    let i = c.loop-place.place in
    let pairs = zip c.args.named.now c.args.numbers.now in
    let within = within_pairs c.args.named.now c.args.numbers.now i c.loop-place-test.true c.requires.numbers in
    let here = pair_at c.args.named.now c.args.numbers.now i c.index-named-place.result _ 0 c.loop-place-test.true c.requires.numbers c.index-named-place.is refl in
    let with = kept_with (shadow_of c.args.listing.now) pairs i _ c.loop-place.shadows.items in
    elim c.match-shadow_of.branch [
      | in-Some+in_ok-push w ↦ with _ _ within here c.loop-place.invariant w.in-Some.ensures (ap (λ v. v.items) w.shadows-is ∙ w.in_ok-push.ensures.items)
      | in_default w ↦ with _ _ within here c.loop-place.invariant w.in_default.ensures (ap (λ v. v.items) w.shadows-is ∙ sym (append-nil _))
    ]

pub returns : goal.returns
returns c = c.loop-place.invariant ∙ ap (filter_map (shadow_of c.args.listing.now)) (all_pairs c.args.named.now c.args.numbers.now c.loop-place.place c.loop-place-test.false)

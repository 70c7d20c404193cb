use Rattle.std.proofs.Common.{[], ◌∷◌, ◌++◌, map, ap, refl, ◌∙◌}
use Rattle.std.proofs.lemmas.List.{map-append}
use Rattle.std.specs.List.{zip}
use Rattle.act_binding.specs.Binding.{children_of}
use Rattle.act_cones.proofs.Lists.{all_pairs, mapped_with, pair_at, within_pairs}
use Rattle.act_binding.proofs.children.child_lists.Goals as goal

pub loop-place-preserved : goal.loop-place-preserved
loop-place-preserved c =
    let i = c.loop-place.place in
    let within = within_pairs c.args.named.now c.args.numbers.now i c.loop-place-test.true c.requires.numbers in
    let here = pair_at c.args.named.now c.args.numbers.now i c.index-named-place.result _ 0 c.loop-place-test.true c.requires.numbers c.index-named-place.is refl in
    mapped_with (children_of c.args.listing.now) (zip c.args.named.now c.args.numbers.now) i _ (map (λ l. l.items) c.loop-place.lists.items) _ _ within here c.loop-place.invariant c.in_ok-children.ensures
    (ap (map (λ l. l.items)) c.in_ok-push.ensures.items ∙ map-append (λ l. l.items) c.loop-place.lists.items (c.in_ok-children.children ∷ []))

pub returns : goal.returns
returns c =
    c.in_ok-add_childless.ensures
    ∙ ap (λ l. l ++ map (λ shadow. []) c.args.shadows.now) (c.loop-place.invariant ∙ ap (map (children_of c.args.listing.now)) (all_pairs c.args.named.now c.args.numbers.now c.loop-place.place c.loop-place-test.false))

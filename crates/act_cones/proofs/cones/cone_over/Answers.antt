use Rattle.std.proofs.Common.{ℕ, ◌<◌, [], ◌∷◌, length, get_or, map, ap, ◌∙◌, rules, tests}
use Rattle.std.proofs.lemmas.Result.{IfOk-weaker}
use Rattle.std.specs.List.{flat_map}
use Rattle.act_profile.specs.Reads.{ascending}
use Rattle.act_cones.proofs.Ascending.{all_ascending}
use Rattle.act_cones.proofs.Coned.{over_distinct, over_none}
use Rattle.act_cones.proofs.cones.cone_over.Goals as goal

pub joined_cones-requires : goal.joined_cones-requires
joined_cones-requires c = record {
  children = rw (c.deref.ensures.value, c.in_ok-distinct.ensures) (all_ascending (λ (child : ℕ). child < length c.args.cones.now) c.args.children.now c.requires.children);
}

pub returns-then-is_empty : goal.returns-then-is_empty
returns-then-is_empty c =
    let each = λ (child : ℕ). get_or (map (λ k. k.items) c.args.cones.now) child [] in
    IfOk-weaker c.alone.result _ _ (λ cone is. is ∙ over_none each c.args.contract c.args.children.now (search (rules, tests))) c.alone.ensures

pub returns : goal.returns
returns c =
    let each = λ (child : ℕ). get_or (map (λ k. k.items) c.args.cones.now) child [] in
    IfOk-weaker c.joined_cones.result _ _ (λ cone is.
    is ∙ (ap (λ ds. ascending (c.args.contract ∷ flat_map each ds)) (c.deref.ensures.value ∙ c.in_ok-distinct.ensures) ∙ over_distinct each c.args.contract c.args.children.now)) c.joined_cones.ensures

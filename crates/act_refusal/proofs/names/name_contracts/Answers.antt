use Rattle.std.proofs.Common.{◌≡◌, false, true, Option, Some, None, Err, codes, is_some, [], ◌∷◌, ◌++◌, map, sym, ap, ◌∙◌, refl, add-one}
use Rattle.std.proofs.lemmas.List.{at_drop_all}
use Rattle.std.proofs.lemmas.Option.{IfSome_then}
use Rattle.act_model.specs.Names.{NameLists, place_of}
use Rattle.act_refusal.specs.Steps.{unrepeated}
use Rattle.act_refusal.specs.Refusal.{refusal_of}
use Rattle.act_cones.proofs.Lists.{left_from}
use Rattle.act_refusal.proofs.NamedSoFar.{none_repeated, one_named, one_repeated}
use Rattle.act_refusal.proofs.names.name_contracts.Goals as goal

is_none : {A : Type 0} (o : Option A) → is_some o ≡ false → o ≡ None
is_none None absent = refl
is_none (Some a) absent = absurd (cc)

pub returns-then-is_some-clause-refused : goal.returns-then-is_some-clause-refused
returns-then-is_some-clause-refused c =
    let here = left_from (λ n. n.id) c.args.named.now c.loop-place.place c.index-named-place.result c.loop-place-test.true c.index-named-place.is in
    let text : c.as_str-id.result.now ≡ c.index-named-place.result.id = c.as_str-id.ensures.value ∙ ap (λ n. n.id) c.contract.view_is in
    let there : is_some (place_of c.index-named-place.result.id c.loop-place.names.contracts) ≡ true =
    sym (ap (λ id. is_some (place_of id c.loop-place.names.contracts)) text) ∙ ap is_some (sym c.contract-in-loop-place.ensures) ∙ sym c.is_some.ensures ∙ c.if-is_some.true in
    let first = one_repeated _ _ _ _ _ _ c.loop-place.invariant.so_far here there in
    IfSome_then (refusal_of c.refused.result) c.refused.ensures (λ refusal is. ap (λ first. unrepeated first (map (λ n. n.id) c.args.named.now)) first
    ∙ ap Err (sym (is ∙ ap (λ place. record { number = 17; place = place; what = codes "contractID" }) (add-one c.loop-place.place))))

pub loop-place-preserved : goal.loop-place-preserved
loop-place-preserved c =
    let here = left_from (λ n. n.id) c.args.named.now c.loop-place.place c.index-named-place.result c.loop-place-test.true c.index-named-place.is in
    let text : c.as_str-id.result.now ≡ c.index-named-place.result.id = c.as_str-id.ensures.value ∙ ap (λ n. n.id) c.contract.view_is in
    let absent : place_of c.index-named-place.result.id c.loop-place.names.contracts ≡ None =
    is_none _ (sym (ap (λ id. is_some (place_of id c.loop-place.names.contracts)) text) ∙ ap is_some (sym c.contract-in-loop-place.ensures) ∙ sym c.is_some.ensures ∙ c.if-is_some.false) in
    rw (c.in_ok-add_contract.ensures.names, text) (record {
      so_far = one_named _ _ _ _ _ _ c.loop-place.invariant.so_far here absent;
      others = ap (λ (names : NameLists). record { contracts = c.loop-place.names.contracts ++ c.index-named-place.result.id ∷ []; codes = names.codes; currencies = names.currencies }) c.loop-place.invariant.others;
    })

pub returns-clause-unrepeated : goal.returns-clause-unrepeated
returns-clause-unrepeated c =
    ap (λ first. unrepeated first (map (λ n. n.id) c.args.named.now)) (none_repeated _ _ _ _ c.loop-place.invariant.so_far (at_drop_all (map (λ n. n.id)) _ _ c.loop-place-test.false))

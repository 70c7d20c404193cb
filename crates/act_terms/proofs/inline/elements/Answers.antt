use Rattle.std.proofs.Common.{◌≡◌, [], true, false, map, sym, ap, refl, ◌∙◌}
use Rattle.std.specs.List.{filter_map, list_any}
use Rattle.act_json.specs.Tree.{data_in}
use Rattle.act_terms.specs.Inline.{contract_in, has_inline, has_object}
use Rattle.act_terms.proofs.Nesting.{inline_of, none_inline}
use Rattle.act_terms.proofs.inline.elements.Goals as goal
use Rattle.act_terms.proofs.inline.elements.Goals.{else-have_objects-via-then-have_objects+else-has_inline, else-have_objects-via-else-have_objects}

pub returns-then-has_inline-clause-inner : goal.returns-then-has_inline-clause-inner
returns-then-has_inline-clause-inner c =
    let given : has_inline (data_in c.args.contract.now) ≡ true = sym c.has_inline.ensures ∙ c.if-has_inline.true in
    rw (inline_of (data_in c.args.contract.now) _ c.listed-elements.ensures.elements, given) refl

pub returns-else-have_objects-clause-inner : goal.returns-else-have_objects-clause-inner
returns-else-have_objects-clause-inner c =
    let nothing : filter_map contract_in (map data_in c.no_elements.result.now) ≡ [] = ap (λ elements. filter_map contract_in (map data_in elements)) c.no_elements.ensures in
    elim c.else-have_objects.branch [
      | else-have_objects-via-then-have_objects+else-has_inline w ↦
          let none : has_inline (data_in c.args.contract.now) ≡ false = sym w.has_inline.ensures ∙ w.if-has_inline.false in
          rw (inline_of (data_in c.args.contract.now) _ c.listed-elements.ensures.elements, none) nothing
      | else-have_objects-via-else-have_objects w ↦
          let none : list_any has_object (map data_in c.listed-elements.result.now) ≡ false = sym c.have_objects.ensures ∙ w.if-have_objects.false in
          nothing ∙ sym (none_inline (data_in c.args.contract.now) _ c.listed-elements.ensures.elements none)
    ]

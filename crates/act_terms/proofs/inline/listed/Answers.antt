use Rattle.std.proofs.Common.{◌≡◌, map, codes, Some, ap, sym, ◌∙◌}
use Rattle.act_json.specs.Tree.{data_in}
use Rattle.serde_json.specs.Data.{array}
use Rattle.serde_json.specs.Find.{get}
use Rattle.serde_json.specs.View.{items_of}
use Rattle.act_terms.proofs.Elements.{array_is, listed_again}
use Rattle.act_terms.proofs.Nesting.{values_lower}
use Rattle.act_terms.proofs.inline.listed.Goals as goal

pub returns-in-Some-Array-clause-elements : goal.returns-in-Some-Array-clause-elements
returns-in-Some-Array-clause-elements c =
    let slice : c.as_slice.result.now ≡ c.in-Some-Array.elements.items = c.as_slice.ensures.value ∙ ap (λ v. v.items) c.in-Some-Array.elements-is in
    let is : data_in c.in-Some-Array.field-0.now ≡ array (items_of (map data_in c.in-Some-Array.elements.items)) = array_is _ c.in-Some-Array.elements c.in-Some-Array.field-0-is in
    let there : get (codes "contractStructure") (data_in c.args.contract.now) ≡ Some (array (items_of (map data_in c.in-Some-Array.elements.items))) = sym c.in-Some-Array.ensures ∙ ap Some is in
    rw (slice, there) (sym (listed_again (map data_in c.in-Some-Array.elements.items)))

pub returns-in-Some-Array-clause-lower : goal.returns-in-Some-Array-clause-lower
returns-in-Some-Array-clause-lower c =
    let slice : c.as_slice.result.now ≡ c.in-Some-Array.elements.items = c.as_slice.ensures.value ∙ ap (λ v. v.items) c.in-Some-Array.elements-is in
    let is : data_in c.in-Some-Array.field-0.now ≡ array (items_of (map data_in c.in-Some-Array.elements.items)) = array_is _ c.in-Some-Array.elements c.in-Some-Array.field-0-is in
    let there : get (codes "contractStructure") (data_in c.args.contract.now) ≡ Some (array (items_of (map data_in c.in-Some-Array.elements.items))) = sym c.in-Some-Array.ensures ∙ ap Some is in
    rw slice (values_lower (data_in c.args.contract.now) c.in-Some-Array.elements.items there)

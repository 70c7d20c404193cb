use Rattle.std.proofs.Common.{◌≡◌, map, codes, Some, ap, sym, ◌∙◌}
use Rattle.serde_json.specs.Data.{array}
use Rattle.serde_json.specs.Find.{get}
use Rattle.serde_json.specs.View.{items_of}
use Rattle.act_json.specs.Tree.{data_in, object_of}
use Rattle.act_terms.specs.Fault.{◌>>=◌}
use Rattle.act_terms.specs.Structure.{elements_in, elements_of, references_from, structure_of}
use Rattle.act_terms.proofs.Elements.{array_is, listed_again}
use Rattle.act_terms.proofs.structure.read_structure.Goals as goal
use Rattle.act_terms.proofs.structure.read_structure.Goals.{After-read_elements}

-- the value is that list
listed_elements : (c : After-read_elements) → structure_of c.args.names.now (object_of c.args.contract.now) ≡ references_from c.args.names.now (map data_in c.as_slice.result.now)
unfolding structure_of elements_of
listed_elements c =
    let slice : c.as_slice.result.now ≡ c.in-Some-Array.elements.items = c.as_slice.ensures.value ∙ ap (λ v. v.items) c.in-Some-Array.elements-is in
    let is : data_in c.in-Some-Array.field-0.now ≡ array (items_of (map data_in c.in-Some-Array.elements.items)) = array_is _ c.in-Some-Array.elements c.in-Some-Array.field-0-is in
    let there : get (codes "contractStructure") (object_of c.args.contract.now) ≡ Some (array (items_of (map data_in c.in-Some-Array.elements.items))) = sym c.in-Some-Array.ensures ∙ ap Some is in
    ap (λ given. elements_in given >>= references_from c.args.names.now) there ∙ ap (references_from c.args.names.now) (listed_again (map data_in c.in-Some-Array.elements.items) ∙ ap (map data_in) (sym slice))

pub returns-in-Some-Array-clause-read : goal.returns-in-Some-Array-clause-read
returns-in-Some-Array-clause-read c = rw (listed_elements c) c.read_elements.ensures.read

pub returns-in-Some-Array-clause-refused : goal.returns-in-Some-Array-clause-refused
returns-in-Some-Array-clause-refused c = rw (listed_elements c) c.read_elements.ensures.refused

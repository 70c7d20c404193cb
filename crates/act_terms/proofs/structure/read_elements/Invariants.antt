use Rattle.std.proofs.Common.{drop, map}
use Rattle.act_json.specs.Tree.{data_in}
use Rattle.act_terms.proofs.Elements.{IsReadTo}
use Rattle.act_terms.proofs.structure.read_elements.Given as goal

abbrev pub invariant-loop-element : goal.invariant-loop-element
invariant-loop-element l =
    IsReadTo l.fn.names (map data_in l.elements) (map data_in (drop l.element-index l.elements)) l.references.items l.names

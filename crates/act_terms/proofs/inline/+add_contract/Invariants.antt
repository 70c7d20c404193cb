use Rattle.std.proofs.Common.{◌≡◌, ◌++◌, ◌∷◌, map, take}
use Rattle.std.specs.List.{filter_map, flat_map}
use Rattle.serde_json.specs.Data.{depth}
use Rattle.act_json.specs.Tree.{data_in}
use Rattle.act_terms.specs.Inline.{contract_in, with_inline}
use Rattle.act_terms.proofs.inline.+add_contract.Given as goal

abbrev pub decreases-add_contract : goal.decreases-add_contract
decreases-add_contract l = depth (data_in l.contract.now)

abbrev pub invariant-loop-element : goal.invariant-loop-element
invariant-loop-element l =
    map (λ c. data_in c.value.now) l.order.items ≡ map (λ c. data_in c.value.now) l.fn.order.items ++ data_in l.contract ∷ flat_map with_inline (filter_map contract_in (map data_in (take l.element-index l.element-items)))

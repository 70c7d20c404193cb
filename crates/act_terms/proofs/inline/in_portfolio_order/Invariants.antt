use Rattle.std.proofs.Common.{◌≡◌, map, take}
use Rattle.std.specs.List.{flat_map}
use Rattle.act_json.specs.Tree.{data_in}
use Rattle.act_terms.specs.Inline.{with_inline}
use Rattle.act_terms.proofs.inline.in_portfolio_order.Given as goal

abbrev pub invariant-loop-contract : goal.invariant-loop-contract
invariant-loop-contract l = map (λ c. data_in c.value.now) l.order.items ≡ flat_map with_inline (map data_in (take l.contract-index l.contracts))

use Rattle.std.proofs.Common.{drop, map}
use Rattle.act_json.specs.Tree.{data_in}
use Rattle.act_terms.proofs.CreditEvents.{IsReadTo}
use Rattle.act_terms.proofs.credit.credit_events.Given as goal

abbrev pub invariant-loop-value : goal.invariant-loop-value
invariant-loop-value l = IsReadTo (map data_in l.values) (map data_in (drop l.value-index l.values)) l.types.items

use Rattle.std.proofs.Common.{drop, map}
use Rattle.act_json.specs.Tree.{data_in}
use Rattle.act_refusal.proofs.ReadSoFar.{IsReadTo}
use Rattle.act_refusal.proofs.contracts.read_contracts.Given as goal

abbrev pub invariant-loop-number : goal.invariant-loop-number
invariant-loop-number l =
    IsReadTo (map (λ c. data_in c.value.now) l.contracts) (map (λ c. data_in c.value.now) (drop l.number l.contracts)) l.named.items l.names l.number

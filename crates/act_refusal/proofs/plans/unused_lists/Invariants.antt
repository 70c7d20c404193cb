use Rattle.std.proofs.Common.{drop, map, string_bytes}
use Rattle.act_json.specs.Tree.{data_in}
use Rattle.act_refusal.specs.Steps.{unused_lists}
use Rattle.act_refusal.proofs.UnusedSoFar.{IsListedTo}
use Rattle.act_refusal.proofs.plans.unused_lists.Given as goal

abbrev pub invariant-loop-place : goal.invariant-loop-place
invariant-loop-place l =
    IsListedTo (drop l.place l.named) (map (λ c. data_in c.value.now) (drop l.place l.contracts)) (map (λ u. map string_bytes u.items) l.lists.items) (unused_lists l.named (map (λ c. data_in c.value.now) l.contracts))

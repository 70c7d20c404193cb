use Rattle.std.proofs.Common.{drop}
use Rattle.act_refusal.proofs.Limited.{IsCountedTo}
use Rattle.act_refusal.proofs.limit.within_limit.Given as goal

abbrev pub invariant-loop-place : goal.invariant-loop-place
invariant-loop-place l = IsCountedTo l.named (drop l.place l.named) l.count l.place

use Rattle.std.proofs.Common.{drop}
use Rattle.std.specs.Vec.Iter.{into_iter_items}
use Rattle.act_audit.specs.Judging.{answer_lists}
use Rattle.act_audit.proofs.ByCaller.{Shared}
use Rattle.act_audit.proofs.answers.by_caller.Given as goal

-- the answers that each caller has, and its share of those that are left, are its share of all
abbrev pub invariant-loop-item : goal.invariant-loop-item
invariant-loop-item l = Shared l.items l.fn.answers.items (answer_lists l.lists.items) (drop l.item-index l.items) (into_iter_items l.replies) l.item-index

use Rattle.std.proofs.Common.{◌≡◌, [], replicate}
use Rattle.act_audit.specs.Judging.{answer_lists}
use Rattle.act_audit.proofs.answers.no_answers.Given as goal

abbrev pub invariant-loop-caller : goal.invariant-loop-caller
invariant-loop-caller l = answer_lists l.lists.items ≡ replicate l._caller []

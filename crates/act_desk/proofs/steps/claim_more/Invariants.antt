use Rattle.std.proofs.Common.{◌≡◌, List, ◌++◌}
use Rattle.act_keeping.specs.Work.{Work}
use Rattle.act_desk.specs.Turns.{HandsOut, InOrder}
use Rattle.act_desk.proofs.steps.claim_more.Given as goal

abbrev pub invariant-loop : goal.invariant-loop
invariant-loop l = (works : List Work) × (l.tasks.items ≡ l.fn.tasks.items ++ works) × InOrder HandsOut works l.fn.board l.board

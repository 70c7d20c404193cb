use Rattle.std.proofs.Common.{◌≡◌, take}
use Rattle.act_history.specs.History.{IsPresent}
use Rattle.act_desk.specs.Turns.{InOrder, MakesLine}
use Rattle.act_desk.proofs.steps.make_each.Given as goal

abbrev pub invariant-loop-place : goal.invariant-loop-place
invariant-loop-place l = record {
  made : InOrder (MakesLine l.caller) (take l.place l.lines) l.fn.board l.board;
  present : IsPresent l.board l.caller;
  portfolio : l.board.portfolio ≡ l.fn.board.portfolio;
}

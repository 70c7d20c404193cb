use Rattle.std.proofs.Common.{refl}
use Rattle.act_history.specs.declared.mark.Mark.TheVariants as mark
use Rattle.act_keeping.proofs.Boards.{board-given_up}
use Rattle.act_keeping.proofs.LatestRuns.{latest-quiet}
use Rattle.act_keeping.proofs.Readiness.{ready-quiet}
use Rattle.act_board.proofs.board.Board.give_up.Goals as goal

pub invariant_of-self : goal.invariant_of-self
invariant_of-self c = (
  board-given_up _ _ c.self.invariant.0
      c.put_mark.new.marks.items _ c.if-self.false c.put_mark.ensures.added c.put_mark.ensures.kept,
  latest-quiet _ _ c.self.invariant.1 mark.GiveUp c.put_mark.new.marks.items c.put_mark.ensures.added (λ d. refl) refl,
  ready-quiet _ _ _ _ _ _ c.self.invariant.2 mark.GiveUp c.put_mark.new.marks.items c.put_mark.ensures.added (λ d w. refl),
)

use Rattle.act_gen.proofs.Loops.{no_swap_more, one_swap_more}
use Rattle.act_gen.proofs.portfolio.push_swaps.Goals as goal
use Rattle.act_gen.proofs.portfolio.push_swaps.Goals.{then-number-eq0+in_ok-push+in_ok-push_swap, else-number-eq0}

pub swaps-preserved : goal.swaps-preserved
swaps-preserved c = elim c.if-number-eq0.branch [
  | then-number-eq0+in_ok-push+in_ok-push_swap w ↦ rw w.text-is (one_swap_more _ _ _ _ _ w.if-number-eq0.true c.swaps.invariant w.in_ok-push.ensures.items w.in_ok-push_swap.ensures)
  | else-number-eq0 w ↦ rw w.text-is (no_swap_more _ _ _ w.if-number-eq0.false c.swaps.invariant)
]

use Rattle.act_swap.proofs.Partners.{IsSought}
use Rattle.act_swap.proofs.netting.nth_like.Given as goal

abbrev pub invariant-rows : goal.invariant-rows
invariant-rows l = IsSought l.row l.run.rows l.n l.place l.left

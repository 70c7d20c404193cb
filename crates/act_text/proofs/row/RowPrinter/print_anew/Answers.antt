use Rattle.std.proofs.Common.{◌≤◌, drop, length, ap, sym, subst, arith}
use Rattle.act_text.proofs.row.RowPrinter.print_anew.Goals as goal

pub invariant_of-self : goal.invariant_of-self
invariant_of-self c = (subst (λ line. 10 ≤ length line) (sym c.put_line.ensures) (omega arith), ap (drop 10) c.put_line.ensures)

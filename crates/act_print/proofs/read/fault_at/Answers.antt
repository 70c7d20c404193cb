use Rattle.std.proofs.Common.{arith}
use Rattle.act_print.proofs.read.fault_at.Goals as goal

pub returns : goal.returns
returns c = omega (arith, c.count_lines.ensures, c.lines_left.ensures, c.requires.left)

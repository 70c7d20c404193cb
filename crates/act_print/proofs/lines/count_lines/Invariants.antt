use Rattle.std.proofs.Common.{◌≡◌, ◌+◌, length}
use Rattle.act_print.specs.Faults.{lines_of}
use Rattle.act_print.proofs.lines.count_lines.Given as goal

abbrev pub invariant-lines : goal.invariant-lines
invariant-lines l = l.count + length (lines_of l.rest) ≡ length (lines_of l.bytes)

abbrev pub decreases-lines : goal.decreases-lines
decreases-lines l = length l.rest

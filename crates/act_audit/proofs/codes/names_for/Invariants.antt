use Rattle.std.proofs.Common.{◌≡◌, length}
use Rattle.act_audit.specs.Text.{journal_lines, names_for, with_codes}
use Rattle.act_audit.proofs.codes.names_for.Given as goal

-- the names with the codes of the lines that are left are those with the codes of all
abbrev pub invariant-lines : goal.invariant-lines
invariant-lines l = with_codes l.names (journal_lines l.rest) ≡ names_for l.fn.names l.fn.text

abbrev pub decreases-lines : goal.decreases-lines
decreases-lines l = length l.rest

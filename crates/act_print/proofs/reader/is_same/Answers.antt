use Rattle.std.proofs.Common.{◌∙◌}
use Rattle.act_print.proofs.FirstLines.{same_lines}
use Rattle.act_print.proofs.reader.is_same.Goals as goal

pub returns : goal.returns
returns c = c.eq.ensures ∙ same_lines c.args.line.now c.args.expected.now

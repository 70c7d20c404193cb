use Rattle.std.proofs.Common.{◌==◌}
use Rattle.act_script.proofs.Cutting.{cut_at, cut_nowhere}
use Rattle.act_script.proofs.lines.first_line.Goals as goal

pub returns-in-Some-clause-lines : goal.returns-in-Some-clause-lines
returns-in-Some-clause-lines c = cut_at (λ byte. byte == 10) c.args.text.now c.in-Some.end c.in-Some.ensures

pub returns-in-None-clause-lines : goal.returns-in-None-clause-lines
returns-in-None-clause-lines c = cut_nowhere (λ byte. byte == 10) c.args.text.now c.in-None.ensures

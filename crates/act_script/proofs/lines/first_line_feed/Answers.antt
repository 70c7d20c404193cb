use Rattle.std.proofs.Common.{◌==◌}
use Rattle.act_script.proofs.Cutting.{found}
use Rattle.act_script.proofs.lines.first_line_feed.Goals as goal

pub returns : goal.returns
returns c = found (λ byte. byte == 10) c.args.text.now c.memchr.result c.memchr.ensures

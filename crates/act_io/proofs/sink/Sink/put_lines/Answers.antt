use Rattle.std.proofs.Common.{subst}
use Rattle.act_io.specs.Page.{Puts}
use Rattle.act_io.proofs.FirstLine.{of_first_line}
use Rattle.act_io.proofs.sink.Sink.put_lines.Goals as goal

pub returns-clause-took : goal.returns-clause-took
returns-clause-took g c =
    of_first_line c.args.text.now (g.Self.Sink.page c.args.self.now) (g.Self.Sink.page c.put.new.self) c.put.result
    (subst (λ line. Puts line (g.Self.Sink.page c.args.self.now) c.put.result (g.Self.Sink.page c.put.new.self)) c.first_line.ensures c.put.ensures.took)

use Rattle.std.proofs.Common.{subst}
use Rattle.act_io.specs.Memory.{page_of}
use Rattle.act_io.specs.Page.{Puts}
use Rattle.act_io.proofs.FirstLine.{of_first_line}
use Rattle.act_io.proofs.memory_sink.MemSinkSink.put_lines.Goals as goal

pub returns-clause-took : goal.returns-clause-took
returns-clause-took c =
    of_first_line c.args.text.now (page_of c.args.self.now) (page_of c.put.new.self) c.put.result
    (subst (λ line. Puts line (page_of c.args.self.now) c.put.result (page_of c.put.new.self)) c.first_line.ensures c.put.ensures.took)

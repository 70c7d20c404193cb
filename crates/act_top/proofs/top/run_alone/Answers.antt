use Rattle.act_engine.specs.Ending.{Outside}
use Rattle.act_top.specs.Commands.{alone_meaning}
use Rattle.act_top.specs.Words.{alone_told}
use Rattle.act_top.proofs.Runs.{alone-halt, alone-whole}
use Rattle.act_top.proofs.top.run_alone.Goals as goal

pub returns-in-Ok-clause-ended : goal.returns-in-Ok-clause-ended
returns-in-Ok-clause-ended g c =
    let before : Outside = record { world = g.F.Files.world c.args.files.now; page = g.K.Sink.page c.args.out.now; rows = c.args.steps.now } in
    let after : Outside = record { world = g.F.Files.world c.go_alone.new.files; page = g.K.Sink.page c.go_alone.new.out; rows = c.go_alone.new.steps } in
    alone-whole (alone_meaning (alone_told c.args.command)).meaning before after c.go_alone.result c.in-Ok.ran c.in-Ok.is c.go_alone.ensures.gone

pub returns-in-Err-clause-ended : goal.returns-in-Err-clause-ended
returns-in-Err-clause-ended g c =
    let before : Outside = record { world = g.F.Files.world c.args.files.now; page = g.K.Sink.page c.args.out.now; rows = c.args.steps.now } in
    let after : Outside = record { world = g.F.Files.world c.go_alone.new.files; page = g.K.Sink.page c.go_alone.new.out; rows = c.go_alone.new.steps } in
    alone-halt (alone_meaning (alone_told c.args.command)).meaning before after c.go_alone.result c.in-Err.halt c.stop.result.status (g.K.Sink.page c.stop.new.out) c.in-Err.is c.go_alone.ensures.gone c.stop.ensures.concluded

use Rattle.act_engine.specs.Ending.{Outside}
use Rattle.act_top.specs.Commands.{threaded_meaning}
use Rattle.act_top.specs.Words.{threaded_told}
use Rattle.act_top.proofs.Runs.{run-halt, run-whole}
use Rattle.act_top.proofs.top.run_threaded.Goals as goal

pub returns-in-Ok : goal.returns-in-Ok
returns-in-Ok g c = λ rows.
    let before : Outside = record { world = g.F.Files.world c.args.files.now; page = g.K.Sink.page c.args.out.now; rows = rows } in
    let after : Outside = record { world = g.F.Files.world c.go_threaded.new.files; page = g.K.Sink.page c.go_threaded.new.out; rows = rows } in
    run-whole (threaded_meaning (threaded_told c.args.command)).meaning before after c.go_threaded.result c.in-Ok.ran c.in-Ok.is (c.go_threaded.ensures rows)

pub returns-in-Err : goal.returns-in-Err
returns-in-Err g c = λ rows.
    let before : Outside = record { world = g.F.Files.world c.args.files.now; page = g.K.Sink.page c.args.out.now; rows = rows } in
    let after : Outside = record { world = g.F.Files.world c.go_threaded.new.files; page = g.K.Sink.page c.go_threaded.new.out; rows = rows } in
    let ended =
    run-halt (threaded_meaning (threaded_told c.args.command)).meaning before after c.go_threaded.result c.in-Err.halt c.stop.result.status (g.K.Sink.page c.stop.new.out) c.in-Err.is (c.go_threaded.ensures rows) c.stop.ensures.concluded in
    rw c.stop.ensures.board ended

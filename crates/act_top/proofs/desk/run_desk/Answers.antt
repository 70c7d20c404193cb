use Rattle.std.proofs.Common.{Some, map, string_bytes, refl, arith}
use Rattle.act_engine.specs.Ending.{Goes, Outside}
use Rattle.act_engine.specs.Reading.{halt_of}
use Rattle.act_engine.specs.declared.halt.Halt.TheVariants as made
use Rattle.act_engine.specs.declared.writing.Failure.TheVariants.{Memory}
use Rattle.act_engine.proofs.Ending.{goes-halt, goes-part, goes-want, goes-whole}
use Rattle.act_top.specs.Desk.{desk_meaning}
use Rattle.act_top.proofs.Plays.{desk-is, desk_outcome}
use Rattle.act_top.proofs.Runs.{ran-halt}
use Rattle.act_top.proofs.desk.run_desk.Goals as goal

pub returns-in_err-job : goal.returns-in_err-job
returns-in_err-job g c = λ rows.
    let named = c.args.desk in
    let meaning = desk_meaning named.workers named.portfolio.now (map string_bytes named.scripts.now) in
    let before : Outside = record { world = g.F.Files.world c.args.files.now; page = g.K.Sink.page c.args.out.now; rows = rows } in
    let after : Outside = record before { world = g.F.Files.world c.read.new.files } in
    ran-halt c.from_residual.result c.in_err-job.field-0.0 (λ status board. Goes meaning before status board after) c.from_residual.ensures.1
    (goes-halt meaning before after (halt_of c.in_err-job.field-0.0) c.in_err-job.ensures.read refl refl)

pub returns-in_err-played : goal.returns-in_err-played
returns-in_err-played g c = λ rows.
    let named = c.args.desk in
    let meaning = desk_meaning named.workers named.portfolio.now (map string_bytes named.scripts.now) in
    let before : Outside = record { world = g.F.Files.world c.args.files.now; page = g.K.Sink.page c.args.out.now; rows = rows } in
    let after : Outside = record before { world = g.F.Files.world c.read.new.files } in
    ran-halt c.from_residual-in_err-played.result (made.Stopped Memory) (λ status board. Goes meaning before status board after) c.from_residual-in_err-played.ensures.1
    (goes-want meaning before after c.in_ok-job.job c.in_ok-job.ensures.read refl)

pub returns-in_err-write_played : goal.returns-in_err-write_played
returns-in_err-write_played g c = λ rows.
    let named = c.args.desk in
    let meaning = desk_meaning named.workers named.portfolio.now (map string_bytes named.scripts.now) in
    let before : Outside = record { world = g.F.Files.world c.args.files.now; page = g.K.Sink.page c.args.out.now; rows = rows } in
    let after : Outside = record before { world = g.F.Files.world c.read.new.files; page = g.K.Sink.page c.write_played.new.out } in
    let job = c.in_ok-job.job in
    let board = c.in_ok-played.played.board in
    let stop = c.in_err-write_played.field-0.0 in
    ran-halt c.from_residual-in_err-write_played.result (made.Stopped stop) (λ status board. Goes meaning before status board after) c.from_residual-in_err-write_played.ensures.1
    (goes-part meaning before after stop job (desk_outcome job board) (Some board) c.in_ok-job.ensures.read (desk-is job board (Some board) c.in_ok-played.ensures.runnable c.in_ok-played.ensures.played refl) c.in_err-write_played.ensures.text)

pub returns : goal.returns
returns g c = λ rows.
    let named = c.args.desk in
    let meaning = desk_meaning named.workers named.portfolio.now (map string_bytes named.scripts.now) in
    let before : Outside = record { world = g.F.Files.world c.args.files.now; page = g.K.Sink.page c.args.out.now; rows = rows } in
    let after : Outside = record before { world = g.F.Files.world c.read.new.files; page = g.K.Sink.page c.write_played.new.out } in
    let job = c.in_ok-job.job in
    let board = c.in_ok-played.played.board in
    let ran = c.in_ok-write_played.field-0 in
    goes-whole meaning before after job (desk_outcome job board) ran.status ran.board c.in_ok-job.ensures.read (desk-is job board ran.board c.in_ok-played.ensures.runnable c.in_ok-played.ensures.played c.in_ok-write_played.ensures.run)
    c.in_ok-write_played.ensures.status c.in_ok-write_played.ensures.text (omega arith)

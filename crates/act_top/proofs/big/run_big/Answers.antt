use Rattle.std.proofs.Common.{Some, refl, arith}
use Rattle.act_engine.specs.Ending.{Goes, Outside}
use Rattle.act_engine.specs.Reading.{halt_of}
use Rattle.act_engine.specs.declared.halt.Halt.TheVariants as made
use Rattle.act_engine.specs.declared.writing.Failure.TheVariants.{Memory}
use Rattle.act_engine.proofs.Ending.{goes-halt, goes-part, goes-want, goes-whole}
use Rattle.act_top.specs.Big.{big_meaning}
use Rattle.act_top.proofs.Plays.{big-is, big_outcome}
use Rattle.act_top.proofs.Runs.{ran-halt}
use Rattle.act_top.proofs.big.run_big.Goals as goal

pub returns-in_err-job : goal.returns-in_err-job
returns-in_err-job g c = λ world rows.
    let meaning = big_meaning c.args.size c.args.workers in
    let before : Outside = record { world = world; page = g.K.Sink.page c.args.out.now; rows = rows } in
    ran-halt c.from_residual.result c.in_err-job.field-0.0 (λ status board. Goes meaning before status board before) c.from_residual.ensures.1
    (goes-halt meaning before before (halt_of c.in_err-job.field-0.0) (c.in_err-job.ensures.read world) refl refl)

pub returns-in_err-played : goal.returns-in_err-played
returns-in_err-played g c = λ world rows.
    let meaning = big_meaning c.args.size c.args.workers in
    let before : Outside = record { world = world; page = g.K.Sink.page c.args.out.now; rows = rows } in
    ran-halt c.from_residual-in_err-played.result (made.Stopped Memory) (λ status board. Goes meaning before status board before) c.from_residual-in_err-played.ensures.1
    (goes-want meaning before before c.in_ok-job.job (c.in_ok-job.ensures.read world) refl)

pub returns-in_err-write_played : goal.returns-in_err-write_played
returns-in_err-write_played g c = λ world rows.
    let meaning = big_meaning c.args.size c.args.workers in
    let before : Outside = record { world = world; page = g.K.Sink.page c.args.out.now; rows = rows } in
    let after : Outside = record before { page = g.K.Sink.page c.write_played.new.out } in
    let job = c.in_ok-job.job in
    let board = c.in_ok-played.played.board in
    let stop = c.in_err-write_played.field-0.0 in
    ran-halt c.from_residual-in_err-write_played.result (made.Stopped stop) (λ status board. Goes meaning before status board after) c.from_residual-in_err-write_played.ensures.1
    (goes-part meaning before after stop job (big_outcome c.args.size job board) (Some board) (c.in_ok-job.ensures.read world) (big-is c.args.size job board (Some board) c.in_ok-job.ensures.one c.in_ok-played.ensures.played refl) c.in_err-write_played.ensures.text)

pub returns : goal.returns
returns g c = λ world rows.
    let meaning = big_meaning c.args.size c.args.workers in
    let before : Outside = record { world = world; page = g.K.Sink.page c.args.out.now; rows = rows } in
    let after : Outside = record before { page = g.K.Sink.page c.write_played.new.out } in
    let job = c.in_ok-job.job in
    let board = c.in_ok-played.played.board in
    let ran = c.in_ok-write_played.field-0 in
    goes-whole meaning before after job (big_outcome c.args.size job board) ran.status ran.board (c.in_ok-job.ensures.read world) (big-is c.args.size job board ran.board c.in_ok-job.ensures.one c.in_ok-played.ensures.played c.in_ok-write_played.ensures.ran.1)
    c.in_ok-write_played.ensures.ran.0 c.in_ok-write_played.ensures.text (omega arith)

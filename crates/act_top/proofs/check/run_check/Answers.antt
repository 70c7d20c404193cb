use Rattle.std.proofs.Common.{None, refl}
use Rattle.act_engine.specs.Ending.{Goes, Outcome, Outside}
use Rattle.act_engine.specs.Reading.{halt_of}
use Rattle.act_engine.specs.declared.halt.Halt.TheVariants as made
use Rattle.act_engine.specs.declared.status.Status.TheVariants.{Done}
use Rattle.act_engine.proofs.Ending.{goes-halt, goes-part}
use Rattle.act_top.specs.Check.{check_meaning, check_text}
use Rattle.act_top.proofs.Runs.{alone-stops}
use Rattle.act_top.proofs.check.run_check.Goals as goal

pub returns-in_err-portfolio-clause-gone : goal.returns-in_err-portfolio-clause-gone
returns-in_err-portfolio-clause-gone g c = λ rows.
    let meaning = check_meaning c.args.portfolio.now in
    let before : Outside = record { world = g.F.Files.world c.args.files.now; page = g.K.Sink.page c.args.out.now; rows = rows } in
    let after : Outside = record before { world = g.F.Files.world c.read_portfolio.new.files } in
    alone-stops c.from_residual.result c.in_err-portfolio.field-0.0 (λ status. Goes meaning before status None after) c.from_residual.ensures.1
    (goes-halt meaning before after (halt_of c.in_err-portfolio.field-0.0) c.in_err-portfolio.ensures refl refl)

pub returns-in_err-write_check-clause-gone : goal.returns-in_err-write_check-clause-gone
returns-in_err-write_check-clause-gone g c = λ rows.
    let meaning = check_meaning c.args.portfolio.now in
    let before : Outside = record { world = g.F.Files.world c.args.files.now; page = g.K.Sink.page c.args.out.now; rows = rows } in
    let after : Outside = record before { world = g.F.Files.world c.read_portfolio.new.files; page = g.K.Sink.page c.write_check.new.out } in
    let stop = c.in_err-write_check.field-0.0 in
    let portfolio = c.in_ok-portfolio.portfolio in
    let outcome : Outcome = record { status = Done; text = check_text portfolio; rows = 0 } in
    alone-stops c.from_residual-in_err-write_check.result (made.Stopped stop) (λ status. Goes meaning before status None after) c.from_residual-in_err-write_check.ensures.1
    (goes-part meaning before after stop portfolio outcome None c.in_ok-portfolio.ensures (refl, refl) c.in_err-write_check.ensures)

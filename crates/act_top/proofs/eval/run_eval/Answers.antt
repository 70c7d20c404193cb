use Rattle.std.proofs.Common.{None, map, string_bytes, refl, ◌∙◌}
use Rattle.act_engine.specs.Ending.{Goes, Outside}
use Rattle.act_engine.specs.Reading.{halt_of}
use Rattle.act_engine.specs.declared.halt.Halt.TheVariants as made
use Rattle.act_engine.proofs.Ending.{goes-halt, goes-part, goes-whole}
use Rattle.act_top.specs.Eval.{eval_meaning}
use Rattle.act_top.proofs.Evals.{eval-is, outcome_of}
use Rattle.act_top.proofs.Runs.{alone-stops}
use Rattle.act_top.proofs.eval.run_eval.Goals as goal

pub returns-in_err-job-clause-gone : goal.returns-in_err-job-clause-gone
returns-in_err-job-clause-gone g c =
    let meaning = eval_meaning c.args.portfolio.now (map string_bytes c.args.scripts.now) in
    let before : Outside = record { world = g.F.Files.world c.args.files.now; page = g.K.Sink.page c.args.out.now; rows = c.args.steps.now } in
    let after : Outside = record before { world = g.F.Files.world c.eval_job.new.files } in
    alone-stops c.from_residual.result c.in_err-job.field-0.0 (λ status. Goes meaning before status None after) c.from_residual.ensures.1
    (goes-halt meaning before after (halt_of c.in_err-job.field-0.0) c.in_err-job.ensures.read refl refl)

pub returns-in_err-stops-clause-gone : goal.returns-in_err-stops-clause-gone
returns-in_err-stops-clause-gone g c =
    let meaning = eval_meaning c.args.portfolio.now (map string_bytes c.args.scripts.now) in
    let before : Outside = record { world = g.F.Files.world c.args.files.now; page = g.K.Sink.page c.args.out.now; rows = c.args.steps.now } in
    let after : Outside = record { world = g.F.Files.world c.eval_job.new.files; page = g.K.Sink.page c.write.new.out; rows = c.write.new.steps } in
    let stop = c.in_err-stops.field-0.0 in
    let job = c.in_ok-job.job in
    let evaluation = c.evaluation_of.result in
    let is = eval-is job evaluation c.evaluation_of.ensures.runnable c.evaluation_of.ensures.portfolio c.evaluation_of.ensures.names c.evaluation_of.ensures.lines in
    alone-stops c.from_residual-in_err-stops.result (made.Stopped stop) (λ status. Goes meaning before status None after) c.from_residual-in_err-stops.ensures.1
    (goes-part meaning before after stop job (outcome_of evaluation) None c.in_ok-job.ensures.read is c.in_err-stops.ensures.text)

pub returns-clause-gone : goal.returns-clause-gone
returns-clause-gone g c =
    let meaning = eval_meaning c.args.portfolio.now (map string_bytes c.args.scripts.now) in
    let before : Outside = record { world = g.F.Files.world c.args.files.now; page = g.K.Sink.page c.args.out.now; rows = c.args.steps.now } in
    let after : Outside = record { world = g.F.Files.world c.eval_job.new.files; page = g.K.Sink.page c.write.new.out; rows = c.write.new.steps } in
    let job = c.in_ok-job.job in
    let evaluation = c.evaluation_of.result in
    let is = eval-is job evaluation c.evaluation_of.ensures.runnable c.evaluation_of.ensures.portfolio c.evaluation_of.ensures.names c.evaluation_of.ensures.lines in
    goes-whole meaning before after job (outcome_of evaluation) c.status.result None c.in_ok-job.ensures.read is (c.status.ensures ∙ c.in_ok-stops.ensures.status) c.in_ok-stops.ensures.text c.in_ok-stops.ensures.ticked

use Rattle.std.proofs.Common.{◌≡◌, arith}
use Rattle.act_engine.proofs.Texts.{part-behind, writes-first, writes-part}
use Rattle.act_transcript.specs.Text.{items_of}
use Rattle.act_eval.specs.Work.{work_of}
use Rattle.act_eval.proofs.evaluation.Evaluation.write.Goals as goal

pub returns-in_err-wrote-clause-text : goal.returns-in_err-wrote-clause-text
returns-in_err-wrote-clause-text g c = writes-first c.from_residual.result _ _ _ _ _ c.from_residual.ensures.1 c.in_err-wrote.ensures.text

pub returns-in_err-write_number-clause-text : goal.returns-in_err-write_number-clause-text
returns-in_err-write_number-clause-text g c =
    let e = c.args.self.now in
    let counted : c.in_ok-wrote.wrote.work ≡ work_of e.portfolio (items_of e.lines) = omega (arith, c.in_ok-wrote.ensures.counted, c.in_ok-wrote.ensures.ticked) in
    writes-part c.from_residual-in_err-write_number.result _ _ _ _ c.from_residual-in_err-write_number.ensures.1
    (part-behind _ _ _ _ _ _ c.in_ok-wrote.ensures.text (rw (c.from.ensures, counted) at c.in_err-write_number.ensures))

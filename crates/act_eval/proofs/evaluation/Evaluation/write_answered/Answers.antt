use Rattle.std.proofs.Common.{ap}
use Rattle.act_engine.proofs.Texts.{part-first, writes-behind, writes-none}
use Rattle.act_eval.specs.Evaluation.{Evaluation}
use Rattle.act_eval.proofs.Answering.{text-parts}
use Rattle.act_eval.proofs.evaluation.Evaluation.write_answered.Goals as goal

pub returns-in_err-blocks-clause-text : goal.returns-in_err-blocks-clause-text
returns-in_err-blocks-clause-text g c = writes-none c.from_residual.result _ _ c.from_residual.ensures.1

pub returns-in_err-driver-clause-text : goal.returns-in_err-driver-clause-text
returns-in_err-driver-clause-text g c = writes-none c.from_residual-in_err-driver.result _ _ c.from_residual-in_err-driver.ensures.1

pub returns-in-Err-clause-text : goal.returns-in-Err-clause-text
returns-in-Err-clause-text g c =
    let e = c.args.self.now in
    rw (text-parts e.portfolio e.names e.lines)
    (part-first c.in-Err.stop _ _ _ _ (rw (c.ask_count-answers.ensures, ap (λ (v : Evaluation). v.names) c.self.view_is, ap (λ (v : Evaluation). v.lines) c.self.view_is) at c.in-Err.ensures))

pub returns-clause-text : goal.returns-clause-text
returns-clause-text g c =
    let e = c.args.self.now in
    rw (text-parts e.portfolio e.names e.lines)
    (writes-behind c.write_answers-wrote.result _ _ _ _ _ (rw (c.ask_count-answers.ensures, ap (λ (v : Evaluation). v.names) c.self.view_is, ap (λ (v : Evaluation). v.lines) c.self.view_is) at c.in_default.ensures)
    c.write_answers-wrote.ensures.text)

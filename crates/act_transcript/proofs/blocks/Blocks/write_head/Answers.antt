use Rattle.std.proofs.Common.{◌++◌, ap, ◌∙◌}
use Rattle.act_engine.proofs.Texts.{writes-none}
use Rattle.act_print.specs.Text.{answer_head_text}
use Rattle.act_transcript.proofs.blocks.Blocks.write_head.Goals as goal

pub returns-in_err-answer_head-clause-text : goal.returns-in_err-answer_head-clause-text
returns-in_err-answer_head-clause-text g c = writes-none c.from_residual.result _ _ c.from_residual.ensures.1

pub returns-clause-text : goal.returns-clause-text
returns-clause-text g c =
    let answer = c.args.answer.now in
    let text = c.in_ok-answer_head.ensures.ok ∙ ap (λ line. line ++ answer_head_text answer.caller answer.number answer.version) c.clear.ensures.items in
    rw (c.deref.ensures.value, text) at c.write_text.ensures

use Rattle.act_engine.proofs.Texts.{writes-none}
use Rattle.act_transcript.proofs.rows.write_close.Goals as goal

pub returns-in_err-close_line : goal.returns-in_err-close_line
returns-in_err-close_line g c = writes-none c.from_residual.result _ _ c.from_residual.ensures.1

pub returns : goal.returns
returns g c = rw (c.deref.ensures.value, c.in_ok-close_line.ensures.ok, c.clear.ensures.items) at c.write_text.ensures

use Rattle.act_engine.proofs.Texts.{writes-none}
use Rattle.act_transcript.proofs.heads.write_item.Goals as goal

pub returns-in_err-item_line : goal.returns-in_err-item_line
returns-in_err-item_line g c = writes-none c.from_residual.result _ _ c.from_residual.ensures.1

pub returns : goal.returns
returns g c = rw (c.deref.ensures.value, c.in_ok-item_line.ensures.ok, c.clear.ensures.items) at c.write_text.ensures

use Rattle.std.proofs.Common.{sym, ◌∙◌}
use Rattle.act_portfolio.proofs.Listed.{as_quoted}
use Rattle.act_portfolio.proofs.reading.read_checked.Goals as goal

pub returns-then-is_quoted-clause-checked : goal.returns-then-is_quoted-clause-checked
returns-then-is_quoted-clause-checked c = rw (as_quoted _ _ (sym (c.is_quoted.ensures c.if-is_quoted.true))) c.text_checked.ensures.checked

pub returns-then-is_quoted-clause-refused : goal.returns-then-is_quoted-clause-refused
returns-then-is_quoted-clause-refused c = rw (as_quoted _ _ (sym (c.is_quoted.ensures c.if-is_quoted.true))) c.text_checked.ensures.refused

pub returns-in-Ok-clause-checked : goal.returns-in-Ok-clause-checked
returns-in-Ok-clause-checked c = rw (as_quoted _ _ (c.deref.ensures.value ∙ c.in-Ok.ensures)) c.text_checked-in-Ok.ensures.checked

pub returns-in-Ok-clause-refused : goal.returns-in-Ok-clause-refused
returns-in-Ok-clause-refused c = rw (as_quoted _ _ (c.deref.ensures.value ∙ c.in-Ok.ensures)) c.text_checked-in-Ok.ensures.refused

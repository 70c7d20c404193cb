use Rattle.act_print.proofs.PlainWords.{not_named}
use Rattle.act_audit.proofs.codes.name.Goals as goal

pub returns-in_err-text-clause-text : goal.returns-in_err-text-clause-text
returns-in_err-text-clause-text c = rw c.from_residual.ensures (not_named c.args.word.now _ c.from_utf8.result c.from_utf8.ensures.cases c.in_err-text.ensures.value)

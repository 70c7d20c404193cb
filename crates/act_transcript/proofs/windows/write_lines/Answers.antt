use Rattle.std.proofs.Common.{sym, ◌∙◌}
use Rattle.act_transcript.proofs.RenewedLines.{block-there}
use Rattle.act_transcript.proofs.windows.write_lines.Goals as goal

pub returns-else-is_empty : goal.returns-else-is_empty
returns-else-is_empty g c =
    rw (block-there c.args.contract c.args.run.now c.args.lines.now c.args.names.now c.text-text.result.now c.text-text.ensures (sym c.is_empty.ensures ∙ c.if-is_empty.false) c.requires.named c.requires.block)
    at c.write_text.ensures

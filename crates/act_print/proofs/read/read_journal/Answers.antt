use Rattle.std.proofs.Common.{◌∙◌, sym, ap}
use Rattle.act_print.specs.Reading.{journal_at}
use Rattle.act_print.proofs.read.read_journal.Goals as goal

pub returns-in-Ok : goal.returns-in-Ok
returns-in-Ok c = (_, ap (journal_at c.args.names.now) (sym c.new-reader.ensures) ∙ c.in-Ok.ensures)

pub returns-in-Err-Wrong : goal.returns-in-Err-Wrong
returns-in-Err-Wrong c = (_, ap (journal_at c.args.names.now) (sym c.new-reader.ensures) ∙ rw c.in-Err-Wrong.field-0-is at c.in-Err-Wrong.ensures)

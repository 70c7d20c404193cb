use Rattle.std.proofs.Common.{Err, sym, ap, ◌∙◌}
use Rattle.act_print.specs.Reading.{transcript_at}
use Rattle.act_print.proofs.Whole.{left_behind, left_from}
use Rattle.act_print.proofs.Ended.{finished, finished_alone, finished_back, finished_fault, gives-back, stopped_at}
use Rattle.act_print.proofs.read.read_text.Goals as goal

pub finish-requires-clause-left : goal.finish-requires-clause-left
finish-requires-clause-left c =
    left_behind c.args.names.now c.in-Ok.ensures.named c.args.bytes.now c.in-Ok-transcript.printed _ (ap (transcript_at c.args.names.now) (sym c.new-reader.ensures) ∙ c.in-Ok-transcript.ensures)

pub fault_at-requires-clause-left : goal.fault_at-requires-clause-left
fault_at-requires-clause-left c =
    left_from c.args.names.now c.in-Ok.ensures.named c.args.bytes.now _ (ap (transcript_at c.args.names.now) (sym c.new-reader.ensures) ∙ rw c.in-Err-Wrong.field-0-is at c.in-Err-Wrong.ensures)

pub returns-in-Ok-transcript-clause-text : goal.returns-in-Ok-transcript-clause-text
returns-in-Ok-transcript-clause-text c =
    finished c.args.names.now c.in-Ok.ensures.named c.args.bytes.now c.in-Ok-transcript.printed _ (ap (transcript_at c.args.names.now) (sym c.new-reader.ensures) ∙ c.in-Ok-transcript.ensures) c.finish.result c.finish.ensures

pub returns-in-Ok-transcript-clause-only : goal.returns-in-Ok-transcript-clause-only
returns-in-Ok-transcript-clause-only c =
    finished_alone c.args.names.now c.in-Ok.ensures.named c.args.bytes.now c.in-Ok-transcript.printed _ (ap (transcript_at c.args.names.now) (sym c.new-reader.ensures) ∙ c.in-Ok-transcript.ensures) c.finish.result c.finish.ensures

pub returns-in-Ok-transcript-clause-fault : goal.returns-in-Ok-transcript-clause-fault
returns-in-Ok-transcript-clause-fault c =
    finished_fault c.args.names.now c.in-Ok.ensures.named c.args.bytes.now c.in-Ok-transcript.printed _ (ap (transcript_at c.args.names.now) (sym c.new-reader.ensures) ∙ c.in-Ok-transcript.ensures) c.finish.result c.finish.ensures

pub returns-in-Err-Wrong-clause-fault : goal.returns-in-Err-Wrong-clause-fault
returns-in-Err-Wrong-clause-fault c =
    stopped_at c.args.names.now c.in-Ok.ensures.named c.args.bytes.now _ (ap (transcript_at c.args.names.now) (sym c.new-reader.ensures) ∙ rw c.in-Err-Wrong.field-0-is at c.in-Err-Wrong.ensures) c.fault_at.result c.fault_at.ensures

pub returns-in-Ok-transcript-clause-back : goal.returns-in-Ok-transcript-clause-back
returns-in-Ok-transcript-clause-back c =
    finished_back c.args.names.now c.in-Ok.ensures.named c.args.bytes.now c.in-Ok-transcript.printed _ (ap (transcript_at c.args.names.now) (sym c.new-reader.ensures) ∙ c.in-Ok-transcript.ensures) c.finish.result c.finish.ensures

pub returns-in-Err-Wrong-clause-back : goal.returns-in-Err-Wrong-clause-back
returns-in-Err-Wrong-clause-back c =
    gives-back c.args.names.now c.args.bytes.now (Err c.fault_at.result) tt
    (stopped_at c.args.names.now c.in-Ok.ensures.named c.args.bytes.now _ (ap (transcript_at c.args.names.now) (sym c.new-reader.ensures) ∙ rw c.in-Err-Wrong.field-0-is at c.in-Err-Wrong.ensures) c.fault_at.result c.fault_at.ensures)

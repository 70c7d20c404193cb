use Rattle.act_engine.specs.Reading.{file_reading, halt_of, read_of}
use Rattle.act_engine.proofs.Reading.{reads_halt, reads_next}
use Rattle.act_model.specs.Limits.{most_bytes}
use Rattle.act_job.specs.Reading.{next_accepted}
use Rattle.act_job.proofs.scripts.Scripts.with_file.Goals as goal

pub returns-in-Ok-clause-read : goal.returns-in-Ok-clause-read
returns-in-Ok-clause-read g c =
    reads_next (file_reading c.args.name.now most_bytes) (next_accepted c.args.portfolio.now c.args.self) _ _ _ c.in-Ok.bytes.items (read_of c.with_bytes.result) c.in-Ok.ensures.read
    (rw c.deref.ensures.value at (c.with_bytes.ensures.read (g.F.Files.world c.fetch.new.files)))

pub returns-in-Err-clause-read : goal.returns-in-Err-clause-read
returns-in-Err-clause-read g c =
    reads_halt (file_reading c.args.name.now most_bytes) (next_accepted c.args.portfolio.now c.args.self) _ _ (halt_of c.in-Err.halt) c.in-Err.ensures.read

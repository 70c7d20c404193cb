use Rattle.act_engine.specs.Reading.{file_reading, read_of}
use Rattle.act_engine.proofs.Reading.{reads_next}
use Rattle.act_model.specs.Limits.{most_bytes}
use Rattle.act_job.specs.Reading.{portfolio_accepted}
use Rattle.act_engine.proofs.Halts.{halts}
use Rattle.act_job.proofs.portfolio.read_portfolio.Goals as goal

pub returns-in_err-bytes : goal.returns-in_err-bytes
returns-in_err-bytes g c =
    halts (file_reading c.args.name.now most_bytes) portfolio_accepted _ _ c.in_err-bytes.field-0.0 c.from_residual.result c.from_residual.ensures.1 c.in_err-bytes.ensures.read

pub returns : goal.returns
returns g c =
    reads_next (file_reading c.args.name.now most_bytes) portfolio_accepted _ _ _ c.in_ok-bytes.bytes.items (read_of c.accept_portfolio.result) c.in_ok-bytes.ensures.read
    (rw c.deref.ensures.value at (c.accept_portfolio.ensures (g.F.Files.world c.fetch.new.files)))

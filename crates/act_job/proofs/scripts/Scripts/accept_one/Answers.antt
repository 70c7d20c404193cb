use Rattle.std.proofs.Common.{sym, subst}
use Rattle.act_engine.specs.Reading.{Reads, read_of}
use Rattle.act_job.specs.Reading.{next_accepted}
use Rattle.act_job.specs.Scripts.{AreScriptsOf, Scripts, no_scripts}
use Rattle.act_engine.proofs.Halts.{wants}
use Rattle.act_job.proofs.Scripting.{none-are}
use Rattle.act_job.proofs.scripts.Scripts.accept_one.Goals as goal

pub returns-in_err-scripts-clause-read : goal.returns-in_err-scripts-clause-read
returns-in_err-scripts-clause-read c = λ world. wants (next_accepted c.args.portfolio.now (no_scripts c.args.portfolio.now) c.args.bytes.now) world c.from_residual.result c.from_residual.ensures.1

pub with_bytes-requires-clause-lines : goal.with_bytes-requires-clause-lines
with_bytes-requires-clause-lines c = subst (λ (s : Scripts). AreScriptsOf c.args.portfolio.now s) (sym c.in_ok-scripts.ensures) (none-are c.args.portfolio.now)

pub returns-clause-read : goal.returns-clause-read
returns-clause-read c = λ world.
    subst (λ (s : Scripts). Reads (next_accepted c.args.portfolio.now s c.args.bytes.now) world (read_of c.with_bytes.result) world) c.in_ok-scripts.ensures (c.with_bytes.ensures.read world)

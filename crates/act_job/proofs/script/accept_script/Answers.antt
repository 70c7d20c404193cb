use Rattle.std.proofs.Common.{Err, subst, sym}
use Rattle.act_engine.specs.Reading.{Halt, Reads}
use Rattle.act_job.specs.Reading.{script_accepted}
use Rattle.act_job.proofs.Reading.{script-refused, script-there}
use Rattle.act_job.proofs.script.accept_script.Goals as goal

pub returns-in-Ok-clause-read : goal.returns-in-Ok-clause-read
returns-in-Ok-clause-read c = λ world.
    script-there c.args.portfolio.now c.args.number c.args.names c.args.entries c.args.bytes.now world _ (rw c.terms.ensures.terms at c.in-Ok.ensures.script)

pub returns-in-Err-clause-read : goal.returns-in-Err-clause-read
returns-in-Err-clause-read c = λ world.
    let p = c.args.portfolio.now in
    subst (λ (halt : Halt). Reads (script_accepted p c.args.number c.args.names c.args.entries c.args.bytes.now) world (Err halt) world) (sym c.script_halt.ensures)
    (script-refused p c.args.number c.args.names c.args.entries c.args.bytes.now world c.in-Err.fault (rw c.terms.ensures.terms at c.in-Err.ensures.refused))

use Rattle.std.proofs.Common.{ap, length, arith, ◌∙◌}
use Rattle.act_gen.specs.Script.{script_text}
use Rattle.act_job.specs.Reading.{next_accepted}
use Rattle.act_job.specs.Scripts.{no_scripts}
use Rattle.act_engine.proofs.Halts.{wants}
use Rattle.act_top.proofs.BigLengths.{script-within}
use Rattle.act_top.proofs.big.big_scripts.Goals as goal

pub returns-in_err-bytes-clause-read : goal.returns-in_err-bytes-clause-read
returns-in_err-bytes-clause-read c = λ world. wants (next_accepted c.args.portfolio.now (no_scripts c.args.portfolio.now) (script_text c.args.size)) world c.from_residual.result c.from_residual.ensures.1

pub accept_one-requires : goal.accept_one-requires
accept_one-requires c =
    let text = c.deref.ensures.value ∙ c.in_ok-bytes.ensures in
    omega (arith, ap length text, script-within c.args.size)

use Rattle.std.proofs.Common.{ℕ, ap, length, arith, ◌∙◌}
use Rattle.act_engine.specs.Reading.{Reading, and_then, halt_of, read_of}
use Rattle.act_engine.proofs.Reading.{reads_halt, reads_next}
use Rattle.act_gen.specs.Portfolio.{portfolio_text}
use Rattle.act_gen.specs.Script.{script_text}
use Rattle.act_job.specs.Job.{Job}
use Rattle.act_job.specs.Reading.{next_accepted, portfolio_accepted, weighed}
use Rattle.act_job.specs.Scripts.{no_scripts}
use Rattle.act_engine.proofs.Halts.{halts, wants}
use Rattle.act_portfolio.specs.Reading.{Accepted}
use Rattle.act_top.specs.Big.{big_reading}
use Rattle.act_top.proofs.BigLengths.{portfolio-within}
use Rattle.act_top.proofs.big.big_job.Goals as goal

-- what is read behind a portfolio
abbrev behind : ℕ → ℕ → Accepted → Reading Job
behind size workers p = and_then (next_accepted p (no_scripts p) (script_text size)) (weighed workers p)

pub returns-in_err-bytes-clause-read : goal.returns-in_err-bytes-clause-read
returns-in_err-bytes-clause-read c = λ world. wants (big_reading c.args.size c.args.workers) world c.from_residual.result c.from_residual.ensures.1

pub accept_portfolio-requires : goal.accept_portfolio-requires
accept_portfolio-requires c =
    let text = c.deref.ensures.value ∙ c.in_ok-bytes.ensures in
    omega (arith, ap length text, portfolio-within c.args.size c.requires.few)

pub returns-in_err-portfolio-clause-read : goal.returns-in_err-portfolio-clause-read
returns-in_err-portfolio-clause-read c = λ world.
    let read = rw (c.deref.ensures.value, c.in_ok-bytes.ensures) at (c.in_err-portfolio.ensures world) in
    halts (portfolio_accepted (portfolio_text c.args.size)) (behind c.args.size c.args.workers) world world c.in_err-portfolio.field-0.0 c.from_residual-in_err-portfolio.result c.from_residual-in_err-portfolio.ensures.1 read

pub returns-in-Ok-clause-read : goal.returns-in-Ok-clause-read
returns-in-Ok-clause-read c = λ world.
    let p = c.in_ok-portfolio.portfolio in
    let read = rw (c.deref.ensures.value, c.in_ok-bytes.ensures) at (c.in_ok-portfolio.ensures world) in
    reads_next (portfolio_accepted (portfolio_text c.args.size)) (behind c.args.size c.args.workers) world world world p (read_of c.new.result) read
    (reads_next (next_accepted p (no_scripts p) (script_text c.args.size)) (weighed c.args.workers p) world world world c.in-Ok.scripts (read_of c.new.result) (c.in-Ok.ensures.read world) (c.new.ensures.read world))

pub returns-in-Err-clause-read : goal.returns-in-Err-clause-read
returns-in-Err-clause-read c = λ world.
    let p = c.in_ok-portfolio.portfolio in
    let read = rw (c.deref.ensures.value, c.in_ok-bytes.ensures) at (c.in_ok-portfolio.ensures world) in
    reads_next (portfolio_accepted (portfolio_text c.args.size)) (behind c.args.size c.args.workers) world world world p _ read
    (reads_halt (next_accepted p (no_scripts p) (script_text c.args.size)) (weighed c.args.workers p) world world (halt_of c.in-Err.halt) (c.in-Err.ensures.read world))

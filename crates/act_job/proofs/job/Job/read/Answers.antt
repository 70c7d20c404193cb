use Rattle.std.proofs.Common.{List, ℕ, map, string_bytes}
use Rattle.act_engine.specs.Reading.{Reading, and_then, halt_of, read_of}
use Rattle.act_engine.proofs.Reading.{reads_halt, reads_next}
use Rattle.act_portfolio.specs.Reading.{Accepted}
use Rattle.act_job.specs.Job.{Job}
use Rattle.act_job.specs.Reading.{portfolio_reading, scripts_reading, weighed}
use Rattle.act_job.specs.Scripts.{no_scripts}
use Rattle.act_engine.proofs.Halts.{halts}
use Rattle.act_job.proofs.job.Job.read.Goals as goal

-- what is read behind a portfolio
abbrev behind : ℕ → List (List ℕ) → Accepted → Reading Job
behind workers scripts p = and_then (scripts_reading p (no_scripts p) scripts) (weighed workers p)

pub returns-in_err-portfolio-clause-read : goal.returns-in_err-portfolio-clause-read
returns-in_err-portfolio-clause-read g c =
    halts (portfolio_reading c.args.portfolio.now) (behind c.args.workers (map string_bytes c.args.scripts.now)) _ _ c.in_err-portfolio.field-0.0 c.from_residual.result c.from_residual.ensures.1 c.in_err-portfolio.ensures

pub returns-in-Ok-clause-read : goal.returns-in-Ok-clause-read
returns-in-Ok-clause-read g c =
    let p = c.in_ok-portfolio.portfolio in
    let names : List (List ℕ) = map string_bytes c.args.scripts.now in
    reads_next (portfolio_reading c.args.portfolio.now) (behind c.args.workers names) _ _ _ p (read_of c.new.result) c.in_ok-portfolio.ensures
    (reads_next (scripts_reading p (no_scripts p) names) (weighed c.args.workers p) _ _ _ c.in-Ok.scripts (read_of c.new.result) c.in-Ok.ensures.read (c.new.ensures.read (g.F.Files.world c.read_scripts.new.files)))

pub returns-in-Err-clause-read : goal.returns-in-Err-clause-read
returns-in-Err-clause-read g c =
    let p = c.in_ok-portfolio.portfolio in
    let names : List (List ℕ) = map string_bytes c.args.scripts.now in
    reads_next (portfolio_reading c.args.portfolio.now) (behind c.args.workers names) _ _ _ p _ c.in_ok-portfolio.ensures
    (reads_halt (scripts_reading p (no_scripts p) names) (weighed c.args.workers p) _ _ (halt_of c.in-Err.halt) c.in-Err.ensures.read)

use Rattle.std.proofs.Common.{Err, List, ℕ, map, string_bytes, subst}
use Rattle.act_audit.specs.Audit.{audit_reading, weighed_text}
use Rattle.act_audit.specs.Text.{most_text}
use Rattle.act_audit.specs.Verdict.{AuditJob}
use Rattle.act_audit.specs.Words.{AuditFiles}
use Rattle.act_audit.proofs.job.AuditJob.read.Goals as goal
use Rattle.act_engine.specs.Reading.{Reading, Reads, and_then, file_reading, halt_of, read_of}
use Rattle.act_engine.proofs.Reading.{reads_halt, reads_next}
use Rattle.act_job.specs.Reading.{portfolio_reading, scripts_reading}
use Rattle.act_job.specs.Scripts.{no_scripts}
use Rattle.act_engine.proofs.Halts.{halts}
use Rattle.act_portfolio.specs.Reading.{Accepted}

-- what is read behind a text
abbrev behind_text : AuditFiles → Accepted → List ℕ → Reading AuditJob
behind_text files p text = and_then (scripts_reading p (no_scripts p) files.scripts) (weighed_text p text)

-- what is read behind a portfolio
abbrev behind : AuditFiles → Accepted → Reading AuditJob
behind files p = and_then (file_reading files.text most_text) (behind_text files p)

pub returns-in_err-portfolio : goal.returns-in_err-portfolio
returns-in_err-portfolio g c =
    let files : AuditFiles = record { portfolio = c.words.inside.portfolio.now; text = c.words.inside.text.now; scripts = map string_bytes c.words.inside.scripts.now } in
    subst (λ (w : AuditFiles). Reads (audit_reading w) (g.F.Files.world c.args.files.now) (read_of c.from_residual.result) (g.F.Files.world c.read_portfolio.new.files)) c.words.view_is
    (halts (portfolio_reading files.portfolio) (behind files) _ _ c.in_err-portfolio.field-0.0 c.from_residual.result c.from_residual.ensures.1 c.in_err-portfolio.ensures)

pub returns-in-Ok : goal.returns-in-Ok
returns-in-Ok g c =
    let p = c.in_ok-portfolio.portfolio in
    let files : AuditFiles = record { portfolio = c.words.inside.portfolio.now; text = c.words.inside.text.now; scripts = map string_bytes c.words.inside.scripts.now } in
    subst (λ (w : AuditFiles). Reads (audit_reading w) (g.F.Files.world c.args.files.now) (read_of c.with_scripts.result) (g.F.Files.world c.with_scripts.new.files)) c.words.view_is
    (reads_next (portfolio_reading files.portfolio) (behind files) _ _ _ p (read_of c.with_scripts.result) c.in_ok-portfolio.ensures
    (reads_next (file_reading files.text most_text) (behind_text files p) _ _ _ c.in-Ok.text.items (read_of c.with_scripts.result) c.in-Ok.ensures.read c.with_scripts.ensures))

pub returns-in-Err : goal.returns-in-Err
returns-in-Err g c =
    let p = c.in_ok-portfolio.portfolio in
    let files : AuditFiles = record { portfolio = c.words.inside.portfolio.now; text = c.words.inside.text.now; scripts = map string_bytes c.words.inside.scripts.now } in
    subst (λ (w : AuditFiles). Reads (audit_reading w) (g.F.Files.world c.args.files.now) (Err (halt_of c.in-Err.halt)) (g.F.Files.world c.fetch.new.files)) c.words.view_is
    (reads_next (portfolio_reading files.portfolio) (behind files) _ _ _ p (Err (halt_of c.in-Err.halt)) c.in_ok-portfolio.ensures
    (reads_halt (file_reading files.text most_text) (behind_text files p) _ _ (halt_of c.in-Err.halt) c.in-Err.ensures.read))

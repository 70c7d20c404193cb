-- What an audit reads, and what it writes. This profile's own.
use Rattle.std.specs.Prelude.{◌≡◌, ℕ, List, Option, None, Some, Result, Ok, Err}
use Rattle.act_engine.specs.Ending.{Ends, Meaning, Outcome, Outside, words_meaning}
use Rattle.act_engine.specs.Reading.{Done, Reading, and_then, file_reading}
use Rattle.act_engine.specs.declared.status.Status.{Status}
use Rattle.act_eval.specs.Work.{work_of}
use Rattle.act_job.specs.Job.{Job}
use Rattle.act_job.specs.Reading.{portfolio_reading, scripts_reading, weighed}
use Rattle.act_job.specs.Scripts.{Scripts, no_scripts}
use Rattle.act_model.specs.declared.journal.Item.{Item}
use Rattle.act_portfolio.specs.Reading.{Accepted}
use Rattle.act_print.specs.Faults.{lines_of}
use Rattle.act_print.specs.Reading.{Lines, journal_at}
use Rattle.act_audit.specs.Journal.{as_one_caller, first_past}
use Rattle.act_audit.specs.Text.{most_text}
use Rattle.act_audit.specs.Verdict.{AuditJob, IsVerdictOn, names_of, verdict_line, verdict_status}
use Rattle.act_audit.specs.Words.{AuditFiles, usage}
use Rattle.act_audit.specs.declared.verdict.Verdict.{Verdict}

-- a job with a text
abbrev pub with_text : List ℕ → Job → AuditJob
with_text text job = record { portfolio = job.portfolio; text = text; scripts = job.scripts }

-- what is to be judged of scripts that were read, unless their asks weigh too much
abbrev pub weighed_text : Accepted → List ℕ → Scripts → Reading AuditJob
weighed_text portfolio text scripts = and_then (weighed 0 portfolio scripts) (λ job. Done (with_text text job))

-- what is to be judged: the portfolio, the text and the scripts of files, each of which is read before the next one is asked for
abbrev pub audit_reading : AuditFiles → Reading AuditJob
audit_reading files =
    and_then (portfolio_reading files.portfolio) (λ p. and_then (file_reading files.text most_text) (λ text.
    and_then (scripts_reading p (no_scripts p) files.scripts) (weighed_text p text)))

-- how many rows are computed for a journal: none where it is too much in some line; else as many as `eval` computes for its steps, made by one caller,
-- whose contracts' evaluations go on from what is kept of those before
abbrev pub rows_within : Accepted → List Item → Option ℕ → ℕ
rows_within portfolio items None = work_of portfolio (as_one_caller items)
rows_within portfolio items (Some line) = 0

-- how many rows are computed where this was read of a text: none where it begins with no journal
abbrev pub rows_for : Accepted → Result (List Item × Lines) Lines → ℕ
rows_for portfolio (Err left) = 0
rows_for portfolio (Ok read) = rows_within portfolio read.0 (first_past portfolio read.0)

-- how many rows are computed for a text, whatever is said of it: those of the journal with which it begins
abbrev pub rows_of_text : AuditJob → ℕ
rows_of_text job = rows_for job.portfolio (journal_at (names_of job) (lines_of job.text))

-- a verdict that is so of the text is written, and the rows of its journal are computed
pub record IsAudit (job : AuditJob) (outcome : Outcome) : Type 0 where
  pub verdict : Verdict
  pub is_so : IsVerdictOn job verdict
  pub status : outcome.status ≡ verdict_status verdict
  pub text : outcome.text ≡ verdict_line verdict
  pub rows : outcome.rows ≡ rows_of_text job

-- an audit of the files of words
abbrev pub audit_meaning : AuditFiles → Meaning AuditJob (Unit {0})
audit_meaning files = record { reading = audit_reading files; IsOutcome = λ job outcome _. IsAudit job outcome }

-- how an audit ends, or words of no form
abbrev pub EndsAs : Option AuditFiles → Outside → Status → Outside → Type 0
EndsAs None before status after = Ends {B = Unit {0}} words_meaning usage before status None after
EndsAs (Some files) before status after = Ends (audit_meaning files) usage before status None after

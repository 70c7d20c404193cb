-- What `desk` writes. This profile's own.
use Rattle.std.specs.Prelude.{◌≡◌, ℕ, List, map, Option, Some}
use Rattle.act_engine.specs.Ending.{Meaning, Outcome}
use Rattle.act_history.specs.History.{History, journal_of, replies_of}
use Rattle.act_job.specs.Job.{IsRunnable, Job}
use Rattle.act_job.specs.Reading.{job_reading}
use Rattle.act_model.specs.Answer.{Reply}
use Rattle.act_profile.specs.Answers.{answers_of}
use Rattle.act_session.specs.Playing.{IsPlayed}
use Rattle.act_session.specs.declared.outcome.Session.{Session}
use Rattle.act_transcript.specs.Ends.{answers_status}
use Rattle.act_transcript.specs.Text.{output_of}

-- what was played is of a job, which can be run: its scripts were played on the board, and of the answers to the asks of the journal, by caller,
-- something is kept
pub record IsPlayOf {A : Type 0} (kept_of : Reply → A) (job : Job) (session : Session A) : Type 0 where
  pub runnable : IsRunnable job.portfolio job.scripts job.workers
  pub played : IsPlayed job.portfolio job.scripts.lists session.board
  pub answers : replies_of session.answers.items ≡ map kept_of (answers_of job.portfolio.contracts job.scripts.names (journal_of session.board))

-- The job can be run. The scripts were played on a board, which is handed out. The text is its journal, which is an interleaving of the scripts,
-- with the answers to its asks; the status is that of these answers. No rows are counted: how many are computed isn't said.
pub record IsDesk (job : Job) (outcome : Outcome) (board : Option History) : Type 0 where
  pub runnable : IsRunnable job.portfolio job.scripts job.workers
  pub history : History
  pub hands : board ≡ Some history
  pub played : IsPlayed job.portfolio job.scripts.lists history
  pub text : outcome.text ≡ output_of job.portfolio job.scripts.names (journal_of history)
  pub status : outcome.status ≡ answers_status (answers_of job.portfolio.contracts job.scripts.names (journal_of history))
  pub rows : outcome.rows ≡ 0

-- `desk W P S1 to Sk`: the portfolio and the scripts are read, and run by so many workers
abbrev pub desk_meaning : ℕ → List ℕ → List (List ℕ) → Meaning Job History
desk_meaning workers portfolio scripts = record { reading = job_reading workers portfolio scripts; IsOutcome = IsDesk }

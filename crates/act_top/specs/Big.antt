-- What `big` writes. This profile's own.
use Rattle.std.specs.Prelude.{◌≡◌, ℕ, List, [], ◌∷◌, length, Option, Some}
use Rattle.act_engine.specs.Ending.{Meaning, Outcome}
use Rattle.act_engine.specs.Reading.{Reading, and_then}
use Rattle.act_engine.specs.declared.status.Status.TheVariants.{Done}
use Rattle.act_gen.specs.Portfolio.{portfolio_text}
use Rattle.act_gen.specs.Script.{script_text}
use Rattle.act_history.specs.History.{History, journal_of}
use Rattle.act_job.specs.Job.{Job}
use Rattle.act_job.specs.Reading.{next_accepted, portfolio_accepted, weighed}
use Rattle.act_job.specs.Scripts.{no_scripts}
use Rattle.act_model.specs.declared.journal.Line.{Line}
use Rattle.act_profile.specs.Answers.{answers_of}
use Rattle.act_session.specs.Playing.{IsPlayed}
use Rattle.act_transcript.specs.Text.{items_of}
use Rattle.act_top.specs.Totals.{totals_text}

-- what is to be run of a number: the portfolio and the script that the generator makes of it, which are read as files are
abbrev pub big_reading : ℕ → ℕ → Reading Job
big_reading size workers =
    and_then (portfolio_accepted (portfolio_text size)) (λ p. and_then (next_accepted p (no_scripts p) (script_text size)) (weighed workers p))

-- The one script was played on a board, which is handed out, and whose journal is the script's. The totals of the answers to it are written; they
-- are the same for any number of workers.
pub record IsBig (size : ℕ) (job : Job) (outcome : Outcome) (board : Option History) : Type 0 where
  pub lines : List Line
  pub one : job.scripts.lists ≡ lines ∷ []
  pub history : History
  pub hands : board ≡ Some history
  pub played : IsPlayed job.portfolio job.scripts.lists history
  pub journal : journal_of history ≡ items_of lines
  pub is : outcome ≡ record {
    status = Done;
    text = totals_text size (length job.portfolio.names.contracts) (answers_of job.portfolio.contracts job.scripts.names (items_of lines));
    rows = 0;
  }

-- `big N W`: what is made of the number is run by so many workers
abbrev pub big_meaning : ℕ → ℕ → Meaning Job History
big_meaning size workers = record { reading = big_reading size workers; IsOutcome = IsBig size }

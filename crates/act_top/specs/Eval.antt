-- What `eval` writes. This profile's own.
use Rattle.std.specs.Prelude.{◌≡◌, ℕ, List, [], ◌∷◌, Option, None}
use Rattle.act_engine.specs.Ending.{Meaning, Outcome}
use Rattle.act_engine.specs.Reading.{Reading, and_then}
use Rattle.act_eval.specs.Evaluation.{evaluation_outcome}
use Rattle.act_history.specs.History.{History}
use Rattle.act_job.specs.Job.{IsRunnable, Job}
use Rattle.act_job.specs.Reading.{job_reading, portfolio_reading, weighed}
use Rattle.act_job.specs.Scripts.{ask_for_all}
use Rattle.act_model.specs.declared.journal.Line.{Line}

-- what `eval P S` reads: a portfolio and a script; where none is named it is the one that asks once for all contracts
abbrev pub eval_reading : List ℕ → List (List ℕ) → Reading Job
eval_reading portfolio [] = and_then (portfolio_reading portfolio) (λ p. weighed 0 p (ask_for_all p))
eval_reading portfolio (script ∷ scripts) = job_reading 0 portfolio (script ∷ scripts)

-- the job can be run; the journal of its one script, its answers and its work are written; no board is handed out
pub record IsEval (job : Job) (outcome : Outcome) (board : Option History) : Type 0 where
  pub runnable : IsRunnable job.portfolio job.scripts job.workers
  pub lines : List Line
  pub one : job.scripts.lists ≡ lines ∷ []
  pub is : outcome ≡ evaluation_outcome (record { portfolio = job.portfolio; names = job.scripts.names; lines = lines })
  pub none : board ≡ None

-- `eval P` and `eval P S`: the portfolio and the script are read, and the script is evaluated
abbrev pub eval_meaning : List ℕ → List (List ℕ) → Meaning Job History
eval_meaning portfolio scripts = record { reading = eval_reading portfolio scripts; IsOutcome = IsEval }

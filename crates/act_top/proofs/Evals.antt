-- What `eval` comes to.
use Rattle.std.proofs.Common.{◌≡◌, ◌≤◌, ℕ, Bool, true, List, [], ◌∷◌, None, length, get_or, Vec, Global, refl, sym, ap, subst, ◌∙◌, arith}
use Rattle.std.specs.Prelude.{◌==◌}
use Rattle.std.specs.List.{All, count_by}
use Rattle.std.proofs.lemmas.Bool.{eqb-true}
use Rattle.std.proofs.lemmas.List.Elements.{All-head}
use Rattle.std.proofs.lemmas.List.Sums.{sum_by-cons}
use Rattle.act_engine.specs.Ending.{Outcome}
use Rattle.act_engine.specs.Reading.{and_then}
use Rattle.act_eval.specs.Evaluation.{Evaluation, IsEvaluable, evaluation_outcome}
use Rattle.act_job.specs.Job.{Job, IsRunnable}
use Rattle.act_job.specs.Reading.{job_reading, portfolio_reading, weighed}
use Rattle.act_job.specs.Scripts.{Scripts, append_count, ask_for_all}
use Rattle.act_job.specs.Weight.{too_much_asked}
use Rattle.act_model.specs.Journal.{appends_entry, is_append, is_known}
use Rattle.act_model.specs.declared.journal.Line.{Line}
use Rattle.act_portfolio.specs.Reading.{Accepted}
use Rattle.act_script.specs.Asks.{line_lists}
use Rattle.act_top.specs.Eval.{IsEval, eval_reading}

-- where a script is named, the job of it is read
pub some-named : (portfolio : List ℕ) (scripts : List (List ℕ)) → 1 ≤ length scripts → eval_reading portfolio scripts ≡ job_reading 0 portfolio scripts
some-named portfolio [] some = absurd (omega (arith, some))
some-named portfolio (script ∷ scripts) some = refl

-- where none is, the portfolio is read, and all contracts are asked for
pub none-named : (portfolio : List ℕ) (scripts : List (List ℕ)) → length scripts ≡ 0 → eval_reading portfolio scripts ≡ and_then (portfolio_reading portfolio) (λ p. weighed 0 p (ask_for_all p))
none-named portfolio [] none = refl
none-named portfolio (script ∷ scripts) none = absurd (omega (arith, none))

pub empty : (count : ℕ) (test : Bool) → test ≡ (count == 0) → test ≡ true → count ≡ 0
empty count test is holds = eqb-true count 0 (sym is ∙ holds)

-- a job of one script is ready to be evaluated
pub ready-one : (portfolio : Accepted) (scripts : Scripts) (workers : ℕ) (lines : List Line) → IsRunnable portfolio scripts workers → scripts.lists ≡ lines ∷ [] → IsEvaluable portfolio scripts.names lines
ready-one portfolio scripts workers lines ready one = record {
  contracts = ready.lines.contracts;
  known = All-head (All (λ (line : Line). is_known scripts.names line.step ≡ true)) lines [] (subst (λ (lists : List (List Line)). All (All (λ (line : Line). is_known scripts.names line.step ≡ true)) lists) one ready.lines.known);
  entries = All-head (All (λ (line : Line). appends_entry line.step ≡ true)) lines [] (subst (λ (lists : List (List Line)). All (All (λ (line : Line). appends_entry line.step ≡ true)) lists) one ready.lines.entries);
  few = omega (arith, ready.lines.counted, ready.lines.few, ap append_count one, sum_by-cons (count_by (λ (line : Line). is_append line.step)) lines []);
  light = subst (λ (lists : List (List Line)). too_much_asked portfolio lists ≡ None) one ready.light;
}

-- the lines of the only one of lists
pub only-lines : (lists : List (Vec Line Global)) (first : Vec Line Global) (lines : List Line) → length (line_lists lists) ≡ 1 → first ≡ get_or lists 0 first → lines ≡ first.items → line_lists lists ≡ lines ∷ []
only-lines [] first lines one is same = absurd (omega (arith, one))
only-lines (list ∷ []) first lines one is same = rw (same, is) refl
only-lines (list ∷ other ∷ others) first lines one is same = absurd (omega (arith, one))

-- what is written of an evaluation
abbrev pub outcome_of : Evaluation → Outcome
outcome_of evaluation = evaluation_outcome evaluation

-- that of a job's one script is what the command comes to
pub eval-is : (job : Job) (evaluation : Evaluation) → IsRunnable job.portfolio job.scripts job.workers → evaluation.portfolio ≡ job.portfolio → evaluation.names ≡ job.scripts.names → job.scripts.lists ≡ evaluation.lines ∷ [] → IsEval job (outcome_of evaluation) None
eval-is job evaluation runnable portfolio names lines = record {
  runnable = runnable;
  lines = evaluation.lines;
  one = lines;
  is = rw (portfolio, names) refl;
  none = refl;
}

-- The evaluation of one caller's script on one thread. This profile's own.
use Rattle.std.specs.Prelude.{◌≡◌, ◌≤◌, ℕ, true, List, [], ◌∷◌, ◌++◌, codes, None}
use Rattle.std.specs.List.{All, count_by}
use Rattle.act_engine.specs.Ending.{Outcome}
use Rattle.act_engine.specs.Writing.{number_line}
use Rattle.act_job.specs.Weight.{too_much_asked}
use Rattle.act_model.specs.Journal.{appends_entry, is_append, is_known}
use Rattle.act_model.specs.Limits.{most_entries}
use Rattle.act_model.specs.Names.{NameLists}
use Rattle.act_model.specs.declared.journal.Item.{Item}
use Rattle.act_model.specs.declared.journal.Line.{Line}
use Rattle.act_portfolio.specs.Reading.{Accepted}
use Rattle.act_profile.specs.Answers.{answers_of}
use Rattle.act_transcript.specs.Ends.{answers_status}
use Rattle.act_transcript.specs.Text.{items_of, output_of}
use Rattle.act_eval.specs.Work.{work_of}

-- a portfolio, the names that the lines of a script are read with, and these lines
pub record Evaluation : Type 0 where
  pub portfolio : Accepted
  pub names : NameLists
  pub lines : List Line

-- what is true of them: the contracts are the portfolio's, what a step names is named, what it appends is an entry of a book, a book holds them
-- all, and the asks don't weigh too much
pub record IsEvaluable (portfolio : Accepted) (names : NameLists) (lines : List Line) : Type 0 where
  pub contracts : names.contracts ≡ portfolio.names.contracts
  pub known : All (λ (line : Line). is_known names line.step ≡ true) lines
  pub entries : All (λ (line : Line). appends_entry line.step ≡ true) lines
  pub few : count_by (λ (line : Line). is_append line.step) lines ≤ most_entries
  pub light : too_much_asked portfolio (lines ∷ []) ≡ None

-- the line of how many rows were computed
abbrev pub work_line : ℕ → List ℕ
work_line work = number_line (codes "work") work

-- the text of a script's journal and its answers, and behind it the line of its work
abbrev pub eval_text : Accepted → NameLists → List Item → List ℕ
eval_text portfolio names items = output_of portfolio names items ++ work_line (work_of portfolio items)

-- what is written of an evaluation, and the status that it ends with
abbrev pub evaluation_outcome : Evaluation → Outcome
evaluation_outcome evaluation = record {
  status = answers_status (answers_of evaluation.portfolio.contracts evaluation.names (items_of evaluation.lines));
  text = eval_text evaluation.portfolio evaluation.names (items_of evaluation.lines);
  rows = work_of evaluation.portfolio (items_of evaluation.lines);
}

-- What is said of a text. This profile's own.
use Rattle.std.specs.Prelude.{◌≡◌, ◌⊎◌, ◌≤◌, ℕ, List, [], ◌∷◌, codes, decimal, length, None, Some}
use Rattle.act_audit.specs.Journal.{IsTextOfJournal, first_past, right_text}
use Rattle.act_audit.specs.Order.{IsFirstDisorder, IsOfScripts}
use Rattle.act_audit.specs.Text.{first_difference, has_work_line, names_for, text_in}
use Rattle.act_engine.specs.declared.status.Status.{Status}
use Rattle.act_engine.specs.declared.status.Status.TheVariants as status
use Rattle.act_audit.specs.declared.verdict.Verdict.{Verdict}
use Rattle.act_audit.specs.declared.verdict.Verdict.TheVariants.{Right, Wrong, Disorder}
use Rattle.act_model.specs.Asks.{asks_of}
use Rattle.act_model.specs.Names.{NameLists}
use Rattle.act_model.specs.declared.journal.Item.{Item}
use Rattle.act_portfolio.specs.Reading.{Accepted}
use Rattle.act_print.specs.Conditions.{IsJournal}
use Rattle.act_print.specs.Faults.{IsFirstFault}
use Rattle.act_text.specs.Lines.{line_of}
use Rattle.act_session.specs.Interleaving.{IsInterleaving}
use Rattle.act_job.specs.Scripts.{AreScriptsOf, Scripts}

-- what is to be judged: the bytes of a text, the portfolio that it is to be of, and the scripts, none where none are given
pub record AuditJob : Type 0 where
  pub portfolio : Accepted
  pub text : List ℕ
  pub scripts : Scripts

-- the names that the text is read with
abbrev pub names_of : AuditJob → NameLists
names_of job = names_for job.scripts.names job.text

-- the right text of a journal, with its line of work where the text at hand has one
abbrev pub wanted_text : AuditJob → List Item → List ℕ
wanted_text job items = right_text job.portfolio (names_of job) items (has_work_line job.text)

-- the text is the right one of a journal, which is no more than `actus` takes
pub record IsRightFor (job : AuditJob) (items : List Item) : Type 0 where
  pub journal : IsJournal (names_of job) items
  pub within : first_past job.portfolio items ≡ None
  pub same : job.text ≡ wanted_text job items

-- The text is right: it is what the portfolio and some journal come to, with the line of work where there is one, and that journal, where scripts
-- are given, is an interleaving of them. It has so many answers.
pub record IsRight (job : AuditJob) (answers : ℕ) : Type 0 where
  pub items : List Item
  pub right : IsRightFor job items
  pub of_scripts : IsOfScripts job.scripts.lists items
  pub count : answers ≡ length (asks_of items)

-- the text, but for its line of work, is that of a journal with whatever answers; and in this line the journal is too much, or the text first
-- differs from the right one of the journal
pub record Differs (job : AuditJob) (line : ℕ) : Type 0 where
  pub items : List Item
  pub journal : IsTextOfJournal (names_of job) (text_in job.text) items
  pub here : (first_past job.portfolio items ≡ Some line)
      ⊎ ((first_past job.portfolio items ≡ None) × (line ≡ first_difference job.text (wanted_text job items)))

-- The text is wrong: it is the right one of no journal. In this line it is no text, since no text begins with the lines up to it; or it is one, and
-- differs there from the right text of its journal.
pub record IsWrong (job : AuditJob) (line : ℕ) : Type 0 where
  pub not_right : (items : List Item) → ¬ IsRightFor job items
  pub here : IsFirstFault (names_of job) (text_in job.text) line ⊎ Differs job line

-- scripts are given, and the text is the right one of its journal, but in this line that isn't an interleaving of them, by this caller's steps
pub record IsOutOfOrder (job : AuditJob) (line caller : ℕ) : Type 0 where
  pub given : 1 ≤ length job.scripts.lists
  pub items : List Item
  pub right : IsRightFor job items
  pub disorder : IsFirstDisorder job.scripts.lists items line caller

-- what is said of a text is so
abbrev pub IsVerdictOn : AuditJob → Verdict → Type 0
IsVerdictOn job (Right answers) = IsRight job answers
IsVerdictOn job (Wrong line) = IsWrong job line
IsVerdictOn job (Disorder line caller) = IsOutOfOrder job line caller

-- no two verdicts on a text are both so
abbrev pub OneVerdict : Type 0
OneVerdict = (job : AuditJob) (one other : Verdict) → IsVerdictOn job one → IsVerdictOn job other → one ≡ other

-- a text is the right one of one journal alone
abbrev pub RightTextsHaveOneJournal : Type 0
RightTextsHaveOneJournal = (job : AuditJob) (items others : List Item) → IsRightFor job items → IsRightFor job others → items ≡ others

-- Where scripts are given a right text is that of an interleaving of them, with the names that the scripts are read with, as a run of the desk
-- writes it: the text's own codes add none.
abbrev pub RightIsOfScripts : Type 0
RightIsOfScripts =
    (job : AuditJob) (answers : ℕ) → AreScriptsOf job.portfolio job.scripts → 1 ≤ length job.scripts.lists → IsRight job answers
    → (items : List Item) × IsInterleaving job.scripts.lists items × (job.text ≡ right_text job.portfolio job.scripts.names items (has_work_line job.text))

-- the line of a verdict
abbrev pub verdict_line : Verdict → List ℕ
verdict_line (Right answers) = line_of (codes "right") (decimal answers ∷ [])
verdict_line (Wrong line) = line_of (codes "wrong") (decimal line ∷ [])
verdict_line (Disorder line caller) = line_of (codes "order") (decimal line ∷ decimal caller ∷ [])

-- the status of a verdict
abbrev pub verdict_status : Verdict → Status
verdict_status (Right answers) = status.Done
verdict_status (Wrong line) = status.Wrong
verdict_status (Disorder line caller) = status.Wrong

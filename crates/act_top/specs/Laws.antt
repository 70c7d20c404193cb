-- Laws on how commands end, on what they write, on journals that hold the steps of several scripts, and on the versions of answers. This profile's own.
use Rattle.std.specs.Prelude.{◌≡◌, ℕ, ◌<◌, ◌≤◌, List, [], ◌∷◌, ◌++◌, map, Option, None, Some, IsSome}
use Rattle.std.specs.List.{AllPairs, enumerate_from, flat_map}
use Rattle.act_engine.specs.Ending.{Outcome, Outside}
use Rattle.act_engine.specs.Telling.{EndsAsTold, TellsFaults}
use Rattle.act_engine.specs.declared.status.Status.{Status}
use Rattle.act_engine.specs.declared.status.Status.TheVariants.{Done, Unfinished}
use Rattle.act_eval.specs.Evaluation.{work_line}
use Rattle.act_history.specs.History.{History, journal_of}
use Rattle.act_job.specs.Job.{Job}
use Rattle.act_model.specs.Answer.{Reply}
use Rattle.act_model.specs.Names.{NameLists}
use Rattle.act_model.specs.declared.journal.Item.{Item}
use Rattle.act_model.specs.declared.journal.Line.{Line}
use Rattle.act_profile.specs.Answers.{answers_of}
use Rattle.act_profile.specs.Run.{Contracts}
use Rattle.act_session.specs.Interleaving.{IsInterleaving}
use Rattle.act_print.specs.Faults.{IsOnlyTextOf}
use Rattle.act_transcript.specs.Text.{items_of, transcript_of}
use Rattle.act_top.specs.Commands.{EndsAs, meaning_of}
use Rattle.act_top.specs.Desk.{IsDesk}
use Rattle.act_top.specs.Eval.{IsEval}
use Rattle.act_top.specs.Words.{Command, Threaded, usage}

-- ---- how commands end

-- the status of a command, or of words of no form, tells what failed
abbrev pub StatusesTellFaults : Type 0
StatusesTellFaults =
    (command : Option Command) (before : Outside) (status : Status) (board : Option History) (after : Outside) → EndsAs command before status board after → TellsFaults before status after

-- where files tell their bytes, what these come to was written, unless something failed
abbrev pub CommandsEndAsTold : Type 0
CommandsEndAsTold =
    (command : Option Command) (before : Outside) (status : Status) (board : Option History) (after : Outside) → EndsAs command before status board after
    → EndsAsTold (meaning_of command).meaning usage before status board after

-- a board is handed out by a command of several threads that wrote its whole text, and by no other
abbrev pub HandsOut : Option Command → Status → Option History → Type 0
HandsOut (Some (Threaded command)) Done board = IsSome board
HandsOut (Some (Threaded command)) Unfinished board = IsSome board
HandsOut command status board = board ≡ None

abbrev pub BoardsAreHanded : Type 0
BoardsAreHanded =
    (command : Option Command) (before : Outside) (status : Status) (board : Option History) (after : Outside) → EndsAs command before status board after → HandsOut command status board

-- ---- texts

-- runs of the desk over one portfolio, whose scripts were read with the same names, have the same text only where they have one journal, and so the
-- same answers
abbrev pub TextsHaveOneJournal : Type 0
TextsHaveOneJournal =
    (job another : Job) (one other : Outcome) (board second : Option History) (is : IsDesk job one board) (also : IsDesk another other second)
    → another.portfolio ≡ job.portfolio → another.scripts.names ≡ job.scripts.names → one.text ≡ other.text → journal_of is.history ≡ journal_of also.history

-- what `eval` writes in front of the line of its work is the text of its journal with its answers, and of nothing else
abbrev pub EvalIsReadBack : Type 0
EvalIsReadBack =
    (job : Job) (outcome : Outcome) (board : Option History) (is : IsEval job outcome board) →
    (text : List ℕ) × (outcome.text ≡ text ++ work_line outcome.rows) × IsOnlyTextOf job.scripts.names text (transcript_of job.portfolio job.scripts.names (items_of is.lines))

-- so is all that `desk` writes
abbrev pub DeskIsReadBack : Type 0
DeskIsReadBack =
    (job : Job) (outcome : Outcome) (board : Option History) (is : IsDesk job outcome board) →
    IsOnlyTextOf job.scripts.names outcome.text (transcript_of job.portfolio job.scripts.names (journal_of is.history))

-- ---- journals

-- the items of a caller's script
abbrev pub items_by : ℕ → List Line → List Item
items_by caller lines = map (λ (line : Line). record { caller = caller; step = line.step }) lines

-- the journal in which one script follows the other
abbrev pub in_turn : List (List Line) → List Item
in_turn lists = flat_map (λ (script : ℕ × List Line). items_by script.0 script.1) (enumerate_from 1 lists)

-- it is an interleaving
abbrev pub InTurnIsInterleaving : Type 0
InTurnIsInterleaving = (lists : List (List Line)) → IsInterleaving lists (in_turn lists)

-- of one script it is the only one, and the script's journal
abbrev pub OneScriptIsJournal : Type 0
OneScriptIsJournal = (lines : List Line) (items : List Item) → IsInterleaving (lines ∷ []) items → items ≡ items_of lines

-- ---- versions

-- where both answers are to one caller, the later has a greater number, and is at the version of the earlier or at a later one
abbrev pub GoesOn : Reply → Reply → Type 0
GoesOn earlier later = earlier.caller ≡ later.caller → (earlier.number < later.number) × (earlier.version ≤ later.version)

-- so it is of any two of the answers to a journal
abbrev pub VersionsNeverGoBack : Type 0
VersionsNeverGoBack = (contracts : Contracts) (names : NameLists) (items : List Item) → AllPairs GoesOn (answers_of contracts names items)

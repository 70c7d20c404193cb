-- What the commands' statuses tell, and which of them hand out a board.
use Rattle.std.proofs.Common.{inl, inr, ℕ, List, [], ◌∷◌, true, false, Option, None, Some, Result, Ok, Err, refl, sym, ap, subst}
use Rattle.std.specs.Prelude.{if◌then◌else◌}
use Rattle.std.specs.List.{list_all}
use Rattle.act_engine.specs.Ending.{EndsBy, Meaning, Outcome, Outside}
use Rattle.act_engine.specs.Reading.{Halt, Refused, Stopped, and_then}
use Rattle.act_engine.specs.Refusal.{Portfolio, Refusal, Script, TooLong, Unread, Words, refusal_status}
use Rattle.act_engine.specs.Telling.{IsOfText, IsRegular, IsRegularReading}
use Rattle.act_engine.specs.declared.status.Status.{Status}
use Rattle.act_engine.specs.declared.status.Status.TheVariants.{Done, Unfinished, WriteFault, NoMemory}
use Rattle.act_engine.specs.declared.writing.Failure.TheVariants.{Sink, Memory}
use Rattle.act_engine.proofs.Telling.{ends-as-told, regular-then, tells-faults}
use Rattle.act_gen.specs.Portfolio.{portfolio_text}
use Rattle.act_gen.specs.Script.{script_text}
use Rattle.act_history.specs.History.{History, journal_of}
use Rattle.act_job.specs.Reading.{next_accepted, portfolio_accepted, portfolio_reading, weighed}
use Rattle.act_job.specs.Scripts.{ask_for_all, no_scripts}
use Rattle.act_job.proofs.Regular.{regular-accepted, regular-job, regular-next, regular-portfolio, regular-weighed}
use Rattle.act_model.specs.Answer.{Reply}
use Rattle.act_profile.specs.Answers.{answers_of}
use Rattle.act_transcript.specs.Ends.{answers_status, ends_well}
use Rattle.act_transcript.specs.Text.{items_of}
use Rattle.act_top.specs.Big.{big_reading}
use Rattle.act_top.specs.Commands.{meaning_of}
use Rattle.act_top.specs.Eval.{eval_reading}
use Rattle.act_top.specs.Laws.{BoardsAreHanded, CommandsEndAsTold, HandsOut, StatusesTellFaults}
use Rattle.act_top.specs.Words.{Alone, Big, Check, Command, Desk, Eval, Threaded, ThreadedCommand, usage}

-- ---- regular meanings

regular-eval : (portfolio : List ℕ) (scripts : List (List ℕ)) → IsRegularReading (eval_reading portfolio scripts)
regular-eval portfolio [] = regular-then (portfolio_reading portfolio) (λ p. weighed 0 p (ask_for_all p)) (regular-portfolio portfolio) (λ p. regular-weighed 0 p (ask_for_all p))
regular-eval portfolio (script ∷ scripts) = regular-job 0 portfolio (script ∷ scripts)

regular-big : (size workers : ℕ) → IsRegularReading (big_reading size workers)
regular-big size workers =
    regular-then (portfolio_accepted (portfolio_text size)) (λ p. and_then (next_accepted p (no_scripts p) (script_text size)) (weighed workers p)) (regular-accepted (portfolio_text size))
    (λ p. regular-then (next_accepted p (no_scripts p) (script_text size)) (weighed workers p) (regular-next p (no_scripts p) (script_text size)) (regular-weighed workers p))

-- the status of answers is Done or Unfinished
of-answers : (P : Status → Type 0) (answers : List Reply) → P Done → P Unfinished → P (answers_status answers)
of-answers P answers done unfinished = elim (list_all ends_well answers) as (λ well. P (if well then Done else Unfinished)) [
  | true ↦ done
  | false ↦ unfinished
]

text-of-answers : (answers : List Reply) → IsOfText (answers_status answers)
text-of-answers answers = of-answers IsOfText answers (inl refl) (inr (inr refl))

regular-command : (command : Option Command) → IsRegular (meaning_of command).meaning
regular-command None = record { reading = tt; statuses = λ value outcome hands is. absurd is }
regular-command (Some (Alone (Check portfolio))) =
    record { reading = regular-portfolio portfolio; statuses = λ value outcome hands is. inl (ap (λ (o : Outcome). o.status) is.0) }
regular-command (Some (Alone (Eval portfolio scripts))) =
    record { reading = regular-eval portfolio scripts; statuses = λ value outcome hands is. subst (λ (o : Outcome). IsOfText o.status) (sym is.is) (text-of-answers (answers_of value.portfolio.contracts value.scripts.names (items_of is.lines))) }
regular-command (Some (Threaded (Desk workers portfolio scripts))) =
    record { reading = regular-job workers portfolio scripts; statuses = λ value outcome hands is. subst IsOfText (sym is.status) (text-of-answers (answers_of value.portfolio.contracts value.scripts.names (journal_of is.history))) }
regular-command (Some (Threaded (Big size workers))) =
    record { reading = regular-big size workers; statuses = λ value outcome hands is. inl (ap (λ (o : Outcome). o.status) is.is) }

pub statuses-tell-faults : StatusesTellFaults
statuses-tell-faults command before status board after = tells-faults (meaning_of command).meaning usage before status board after (regular-command command)

pub commands-end-as-told : CommandsEndAsTold
commands-end-as-told command before status board after = ends-as-told (meaning_of command).meaning usage before status board after (regular-command command)

-- ---- boards

-- what is so of each outcome and its board, and of the statuses of refusals and faults with none, is so of a command's status and board
module _ {A : Type 0} (P : Status → Option History → Type 0) (meaning : Meaning A History) (before : Outside) (status : Status) (board : Option History) (after : Outside) where
  by-end : ((value : A) (outcome : Outcome) (hands : Option History) → meaning.IsOutcome value outcome hands → P outcome.status hands) → ((refusal : Refusal) → P (refusal_status refusal) None) → P WriteFault None → P NoMemory None
      → (read : Result A Halt) → EndsBy meaning usage read before status board after → P status board
  by-end outcomes refusals write memory (Ok value) (outcome, hands, is, inl whole) = rw (whole.status_is, whole.hands_out) (outcomes value outcome hands is)
  by-end outcomes refusals write memory (Ok value) (outcome, hands, is, inr (none, inl (failed, part))) = rw (failed, none) write
  by-end outcomes refusals write memory (Ok value) (outcome, hands, is, inr (none, inr (failed, part))) = rw (failed, none) memory
  by-end outcomes refusals write memory (Err (Refused refusal)) ended =
      elim ended.wrote [
        | inl (is, put) ↦ rw (is, ended.hands_out) (refusals refusal)
        | inr (inl (is, part)) ↦ rw (is, ended.hands_out) write
        | inr (inr (is, part)) ↦ rw (is, ended.hands_out) memory
      ]
  by-end outcomes refusals write memory (Err (Stopped Sink)) ended = absurd ended
  by-end outcomes refusals write memory (Err (Stopped Memory)) (is, none, same) = rw (is, none) memory

-- an outcome's status and its board
outcome-hands : (command : Option Command) (value : (meaning_of command).Read) (outcome : Outcome) (hands : Option History) → (meaning_of command).meaning.IsOutcome value outcome hands → HandsOut command outcome.status hands
outcome-hands None value outcome hands is = absurd is
outcome-hands (Some (Alone (Check portfolio))) value outcome hands is = is.1
outcome-hands (Some (Alone (Eval portfolio scripts))) value outcome hands is = is.none
outcome-hands (Some (Threaded (Desk workers portfolio scripts))) value outcome hands is =
    rw (is.status, is.hands) (of-answers (λ (s : Status). HandsOut (Some (Threaded (Desk workers portfolio scripts))) s (Some is.history))
    (answers_of value.portfolio.contracts value.scripts.names (journal_of is.history)) refl refl)
outcome-hands (Some (Threaded (Big size workers))) value outcome hands is = rw (is.is, is.hands) refl

-- a refusal's, and those of faults
none-refused : (command : ThreadedCommand) (refusal : Refusal) → HandsOut (Some (Threaded command)) (refusal_status refusal) None
none-refused command Words = refl
none-refused command (Unread name) = refl
none-refused command (TooLong name) = refl
none-refused command (Portfolio number place what) = refl
none-refused command (Script rule script line) = refl

none-handed : (command : Option Command) → ((refusal : Refusal) → HandsOut command (refusal_status refusal) None) × HandsOut command WriteFault None × HandsOut command NoMemory None
none-handed None = (λ refusal. refl, refl, refl)
none-handed (Some (Alone command)) = (λ refusal. refl, refl, refl)
none-handed (Some (Threaded command)) = (none-refused command, refl, refl)

pub boards-are-handed : BoardsAreHanded
boards-are-handed command before status board after ended =
    let none = none-handed command in
    by-end (HandsOut command) (meaning_of command).meaning before status board after (outcome-hands command) none.0 none.1 none.2 ended.read ended.ends

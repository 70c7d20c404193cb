-- What the calls of a board answer and leave, as relations between the history before and the one after.
use Rattle.std.specs.Prelude.{◌≡◌, ◌↔◌, ℕ, true, false, length, IfErr, IfOk, Result, Err}
use Rattle.act_model.specs.declared.journal.Asked.{Asked}
use Rattle.act_model.specs.declared.observed.Obs.{Obs}
use Rattle.act_num.specs.declared.NoMemory.{NoMemory}
use Rattle.act_board.specs.Calls.{Claims, Collects, after_finish, after_give_up}
use Rattle.act_history.specs.History.{History, and_then, asks_by, is_given_up, version_of}
use Rattle.act_history.specs.Legal.{HasQuota, IsFull, IsLegal}
use Rattle.act_keeping.specs.Work.{Work, version}
use Rattle.act_history.specs.declared.mark.Mark.TheVariants as mark
use Rattle.act_board.specs.declared.outcome.AppendFault.{AppendFault}
use Rattle.act_board.specs.declared.outcome.AppendFault.TheVariants as appending
use Rattle.act_board.specs.declared.outcome.AskFault.{AskFault}
use Rattle.act_board.specs.declared.outcome.AskFault.TheVariants as asking
use Rattle.act_board.specs.declared.outcome.Claim.{Claim}
use Rattle.act_board.specs.declared.outcome.Collected.{Collected}

-- an entry was appended, or why it wasn't
pub record Appends (i : ℕ) (entry : Obs) (answer : Result ℕ AppendFault) (before after : History) : Type 0 where
  pub appended : IfOk answer (λ _. after ≡ and_then before (mark.Append i entry))
  pub version : IfOk answer (λ version. version ≡ version_of after)
  pub given_up : (answer ≡ Err appending.GivenUp) ↔ (is_given_up before ≡ true)
  pub spent : (answer ≡ Err appending.QuotaSpent) ↔ ((is_given_up before ≡ false) × ¬ (HasQuota before i))
  pub unchanged : IfErr answer (λ _. after ≡ before)

-- an ask was taken, or why it wasn't
pub record Asks (i : ℕ) (asked : Asked) (answer : Result ℕ AskFault) (before after : History) : Type 0 where
  pub taken : IfOk answer (λ _. after ≡ and_then before (mark.Ask i asked))
  pub number : IfOk answer (λ number. number ≡ length (asks_by after i))
  pub given_up : (answer ≡ Err asking.GivenUp) ↔ (is_given_up before ≡ true)
  pub full : (answer ≡ Err asking.AsksFull) ↔ ((is_given_up before ≡ false) × IsFull before i)
  pub unchanged : IfErr answer (λ _. after ≡ before)

-- what is claimed, or why nothing is; memory runs out only where something is claimable
pub record ClaimsOrNot (answer : Result Claim NoMemory) (before after : History) : Type 0 where
  pub claimed : IfOk answer (λ claim. Claims before claim after)
  pub memory : IfErr answer (λ _. (contract : ℕ) × (version : ℕ) × IsLegal before (mark.Claim contract version))
  pub unchanged : IfErr answer (λ _. after ≡ before)

-- work comes back
abbrev pub Finishes : Work → History → History → Type 0
Finishes work before after = after ≡ after_finish before work.contract (version work)

-- somebody gives up
abbrev pub GivesUp : History → History → Type 0
GivesUp before after = after ≡ after_give_up before

-- what a caller collects, or why it doesn't; memory runs out only where the answer is ready
pub record CollectsOrNot (i : ℕ) (answer : Result Collected NoMemory) (before after : History) : Type 0 where
  pub collected : IfOk answer (λ collected. Collects before i collected after)
  pub memory : IfErr answer (λ _. IsLegal before (mark.Collect i))
  pub unchanged : IfErr answer (λ _. after ≡ before)

-- a caller leaves
abbrev pub Leaves : ℕ → History → History → Type 0
Leaves i before after = after ≡ and_then before (mark.Leave i)

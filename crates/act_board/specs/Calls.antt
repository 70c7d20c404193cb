-- What the calls of a board answer and leave. This profile's own.
use Rattle.std.specs.Prelude.{◌≡◌, ℕ, if◌then◌else◌, true, false, take}
use Rattle.act_model.specs.declared.asks.Asking.{Asking}
use Rattle.act_profile.specs.Answers.{answer_to}
use Rattle.act_history.specs.History.{History, and_then, entries_of, is_claimed, is_given_up}
use Rattle.act_keeping.specs.Latest.{cut_for, kept_for}
use Rattle.act_history.specs.Legal.{HasEnded, IsNext, IsOldest, IsReady, NoneIsClaimable}
use Rattle.act_keeping.specs.Work.{Work, version}
use Rattle.act_history.specs.declared.mark.Mark.TheVariants as mark
use Rattle.act_board.specs.declared.outcome.Claim.{Claim}
use Rattle.act_board.specs.declared.outcome.Claim.TheVariants as claim
use Rattle.act_board.specs.declared.outcome.Collected.{Collected}
use Rattle.act_board.specs.declared.outcome.Collected.TheVariants as collected

-- ---- claim

-- the work is of a contract of the history's portfolio and of its first entries
pub record IsOf (history : History) (work : Work) : Type 0 where
  pub portfolio : work.portfolio ≡ history.portfolio
  pub entries : work.entries ≡ take (version work) (entries_of history)

-- what is claimed, with the rows that its evaluation keeps of the run at the contract's cached version and the cut between the two versions, or why nothing is
abbrev pub Claims : History → Claim → History → Type 0
Claims history (claim.Task work) after =
    (is_given_up history ≡ false) × IsOf history work × IsNext history work.contract (version work)
    × (after ≡ and_then history (mark.Claim work.contract (version work)))
    × (work.kept ≡ kept_for history work.contract (version work))
    × (work.cut ≡ cut_for history work.contract (version work))
Claims history claim.Idle after = (is_given_up history ≡ false) × NoneIsClaimable history × ¬ (HasEnded history) × (after ≡ history)
Claims history claim.Ended after = (is_given_up history ≡ false) × HasEnded history × (after ≡ history)
Claims history claim.GivenUp after = (is_given_up history ≡ true) × (after ≡ history)

-- ---- finish, give_up

-- the history after work comes back: the work is dropped where it isn't claimed
abbrev pub after_finish : History → ℕ → ℕ → History
after_finish history c v = if is_claimed history c v then and_then history (mark.Finish c v) else history

-- the history after somebody gives up: nothing changes where somebody did before
abbrev pub after_give_up : History → History
after_give_up history = if is_given_up history then history else and_then history mark.GiveUp

-- ---- collect

-- the answer to the oldest open ask of a caller: each contract asked, evaluated from inception over the entries before the ask
abbrev pub Collects : History → ℕ → Collected → History → Type 0
Collects history i (collected.Ready answer) after =
    (is_given_up history ≡ false)
    × (ask : Asking) × IsOldest history i ask × IsReady history ask
    × (answer ≡ answer_to history.portfolio.contracts history.portfolio.names (entries_of history) ask)
    × (after ≡ and_then history (mark.Collect i))
Collects history i collected.NotYet after =
    (is_given_up history ≡ false) × (ask : Asking) × IsOldest history i ask × ¬ (IsReady history ask) × (after ≡ history)
Collects history i collected.GivenUp after = (is_given_up history ≡ true) × (after ≡ history)

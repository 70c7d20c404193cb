-- What may happen on a board, by what has happened. This profile's own.
use Rattle.std.specs.Prelude.{◌≡◌, ◌⊎◌, ℕ, suc, ◌<◌, ◌≤◌, true, false, [], length, Some}
use Rattle.std.specs.List.{All, slice_get}
use Rattle.act_model.specs.Journal.{contracts_of}
use Rattle.act_model.specs.Limits.{most_asks, most_open}
use Rattle.act_model.specs.declared.asks.Asking.{Asking}
use Rattle.act_refs.specs.Path.{IsChild}
use Rattle.act_history.specs.History.{History, IsPresent, IsWanted, appended_by, asks_by, before, has_left, has_result, is_claimed, is_given_up, open_asks}
use Rattle.act_history.specs.declared.mark.Mark.{Mark}
use Rattle.act_history.specs.declared.mark.Mark.TheVariants.{Append, Ask, Claim, Finish, Collect, Leave, GiveUp}

-- a caller has appended fewer entries than its quota
abbrev pub HasQuota : History → ℕ → Type 0
HasQuota history i = (place : ℕ) × (quota : ℕ) × (i ≡ suc place) × (slice_get history.quotas place ≡ Some quota) × (appended_by history i < quota)

-- a caller has as many asks open as there may be, or has made as many as it may
abbrev pub IsFull : History → ℕ → Type 0
IsFull history i = (most_open ≤ length (open_asks history i)) ⊎ (most_asks ≤ length (asks_by history i))

-- a contract at a version may be handed out: it is wanted, has no result, isn't claimed, and its children have results at that version
pub record IsClaimable (history : History) (c v : ℕ) : Type 0 where
  pub wanted : IsWanted history c v
  pub no_result : has_result history c v ≡ false
  pub free : is_claimed history c v ≡ false
  pub children : (child : ℕ) → IsChild history.portfolio.contracts.children c child → has_result history child v ≡ true

-- nothing may
abbrev pub NoneIsClaimable : History → Type 0
NoneIsClaimable history = (c v : ℕ) → ¬ (IsClaimable history c v)

-- of those that may it has the least version, and of these the least rank
pub record IsNext (history : History) (c v : ℕ) : Type 0 where
  pub claimable : IsClaimable history c v
  pub rank : ℕ
  pub ranked : slice_get history.portfolio.order rank ≡ Some c
  pub least : (d w r : ℕ) → IsClaimable history d w → slice_get history.portfolio.order r ≡ Some d → (v < w) ⊎ ((v ≡ w) × (rank ≤ r))

-- the oldest open ask of a caller
abbrev pub IsOldest : History → ℕ → Asking → Type 0
IsOldest history i ask = slice_get (open_asks history i) 0 ≡ Some ask

-- each contract asked has a result at the ask's version
abbrev pub IsReady : History → Asking → Type 0
IsReady history ask = All (λ c. has_result history c ask.version ≡ true) (contracts_of history.portfolio.names ask.asked)

-- what may happen next
abbrev pub IsLegal : History → Mark → Type 0
IsLegal history (Append i entry) = IsPresent history i × (is_given_up history ≡ false) × HasQuota history i
IsLegal history (Ask i asked) =
    IsPresent history i × (is_given_up history ≡ false) × (length (open_asks history i) < most_open) × (length (asks_by history i) < most_asks)
IsLegal history (Claim c v) = (is_given_up history ≡ false) × IsNext history c v
IsLegal history (Finish c v) = is_claimed history c v ≡ true
IsLegal history (Collect i) = (is_given_up history ≡ false) × (ask : Asking) × IsOldest history i ask × IsReady history ask
IsLegal history (Leave i) = IsPresent history i × ((open_asks history i ≡ []) ⊎ (is_given_up history ≡ true))
IsLegal history GiveUp = is_given_up history ≡ false

-- each mark was legal by what stood before it
abbrev pub IsSound : History → Type 0
IsSound history = (place : ℕ) (mark : Mark) → slice_get history.marks place ≡ Some mark → IsLegal (before history place) mark

-- all callers have left, and nothing that is wanted lacks a result
pub record HasEnded (history : History) : Type 0 where
  pub left : (i : ℕ) → 1 ≤ i → i ≤ length history.quotas → has_left history i ≡ true
  pub done : (c v : ℕ) → IsWanted history c v → has_result history c v ≡ true

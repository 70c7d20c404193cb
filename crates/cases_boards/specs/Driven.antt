-- A board that is driven.
use Rattle.std.specs.Prelude.{◌≡◌, ℕ, suc, Bool, true, false, List, length, Some}
use Rattle.std.specs.List.{All, slice_get}
use Rattle.act_portfolio.specs.Reading.{Accepted}
use Rattle.act_board.specs.Calls.{IsOf}
use Rattle.act_history.specs.History.{History, has_left, is_given_up}
use Rattle.act_keeping.specs.Work.{Work}

-- what is known of a board: its portfolio, who has left, that it was given up, and that the tasks at hand are of it
pub record IsDriven (history : History) (of : Accepted) (gone : List Bool) (held : List Work) (gave_up : Bool) : Type 0 where
  pub portfolio : history.portfolio ≡ of
  pub count : length gone ≡ length history.quotas
  pub here : (k : ℕ) → slice_get gone k ≡ Some false → has_left history (suc k) ≡ false
  pub tasks : All (IsOf history) held
  pub given_up : gave_up ≡ true → is_given_up history ≡ true

-- What can be printed of a run: rows on days, in currencies that have names, with numbers of the range, and a stop by a code that has a name. This
-- profile's own.
use Rattle.std.specs.Prelude.{ℕ, ◌<◌, List}
use Rattle.std.specs.List.{AllByRecursion}
use Rattle.act_num.specs.Number.{InRange}
use Rattle.act_date.specs.Civil.{IsDay}
use Rattle.act_model.specs.Bounds.{EntryIsBounded}
use Rattle.act_model.specs.Run.{Stream}
use Rattle.act_model.specs.declared.observed.Obs.{Obs}
use Rattle.act_model.specs.declared.run.Close.{Close}
use Rattle.act_model.specs.declared.run.Close.TheVariants.{End, Missing, Overflow}
use Rattle.act_model.specs.declared.run.Row.{Row}
use Rattle.act_profile.specs.Printable.{ArePrintable}
use Rattle.act_profile.specs.Run.{Contracts, run_of}

-- ---- runs

-- a row's day is a day, its currency one of so many, and what is printed of its amounts numbers of the range
pub record RowHolds (currencies : ℕ) (row : Row) : Type 0 where
  pub day : IsDay row.day
  pub currency : row.currency < currencies
  pub payoff : InRange row.payoff
  pub nt : InRange row.state.nt
  pub ipnr : InRange row.state.ipnr
  pub ipac : InRange row.state.ipac

-- a missing code is one of so many, and the day of a stop is a day
abbrev pub CloseHolds : ℕ → Close → Type 0
CloseHolds codes End = Unit {0}
CloseHolds codes (Missing code day) = (code < codes) × IsDay day
CloseHolds codes (Overflow day kind) = IsDay day

-- so it is for each row of a run, and for its close
pub record RunHolds (codes currencies : ℕ) (run : Stream) : Type 0 where
  pub rows : AllByRecursion (RowHolds currencies) run.rows
  pub close : CloseHolds codes run.close

-- ---- the law

-- the runs of a portfolio that can be printed hold, over entries with days and numbers
abbrev pub RunsHold : Type 0
RunsHold =
    (codes currencies : ℕ) (contracts : Contracts) (entries : List Obs) (c : ℕ) → ArePrintable codes currencies contracts →
    AllByRecursion EntryIsBounded entries → RunHolds codes currencies (run_of contracts entries c)

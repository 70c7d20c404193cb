-- What is kept of an evaluation that is handed out, and of one that was made.
use Rattle.std.specs.Prelude.{◌≡◌, ℕ, ◌+◌, ◌<◌, ℤ, List, length, map, Option, Some, None, Ok}
use Rattle.std.specs.Arc.{arc_value}
use Rattle.std.specs.declared.alloc.Global.{Global}
use Rattle.std.specs.declared.sync.Arc.{Arc}
use Rattle.act_model.specs.Run.{Stream}
use Rattle.act_model.specs.declared.observed.Obs.{Obs}
use Rattle.act_accepted.specs.Accepted.{Accepted}
use Rattle.act_profile.specs.Kept.{kept_of}
use Rattle.act_profile.specs.Run.{run_of}
use Rattle.act_refs.specs.Ordered.{order_of}
use Rattle.act_refs.specs.Path.{children_of}
use Rattle.act_profile.specs.DayOrder.{AreInDayOrder, RunsAreInDayOrder}
use Rattle.act_keeping.specs.Latest.{kept_rows}
use Rattle.act_keeping.specs.Work.{Work, outcome, version}
use Rattle.act_keeping.specs.declared.latest.Cached.{Cached}

-- the work of a contract of a portfolio over entries, which goes on from what is cached
abbrev pub work_over : Accepted → ℕ → List Obs → Cached → Work
work_over portfolio contract entries cached = record { portfolio = portfolio; contract = contract; entries = entries; kept = kept_rows cached; cut = cached.cut }

-- these are the runs of the contract's children
abbrev pub AreRunsBelow : Work → List Stream → Type 0
AreRunsBelow work runs =
    (runs ≡ map (run_of work.portfolio.contracts work.entries) (children_of work.portfolio.contracts.children work.contract)) × RunsAreInDayOrder runs

-- what is kept of a run under a cut is kept of another: an evaluation of that one may go on from it
pub record GoesOnFrom (run : Stream) (kept : Stream) (cut : Option ℤ) : Type 0 where
  pub sorted : AreInDayOrder kept.rows
  pub same : kept_of kept cut ≡ kept_of run cut

-- so it is of a cached run, where there is one
abbrev pub MayGoOn : Stream → Option (Arc Stream Global) → Option ℤ → Type 0
MayGoOn run None cut = Unit {0}
MayGoOn run (Some kept) cut = GoesOnFrom run (arc_value kept) cut

-- an evaluation that is handed out, with its children's runs and what it goes on from
pub record IsTask (work : Work) (entries : ℕ) (runs : List Stream) (cached : Cached) : Type 0 where
  pub contract : work.contract < length work.portfolio.contracts.terms
  pub ordered : order_of work.portfolio.contracts.children ≡ Ok work.portfolio.order
  pub count : length work.portfolio.contracts.children ≡ length work.portfolio.contracts.terms
  pub version : entries ≡ version work
  pub children : AreRunsBelow work runs
  pub kept : MayGoOn (outcome work) cached.run cached.cut

-- one that was made, with its run, of which there are two handles, and how many of its rows weren't kept
pub record IsDone (work : Work) (entries : ℕ) (made latest : Stream) (rows : ℕ) : Type 0 where
  pub contract : work.contract < length work.portfolio.contracts.terms
  pub version : entries ≡ version work
  pub run : made ≡ outcome work
  pub same : latest ≡ made
  pub sorted : AreInDayOrder made.rows
  pub fresh : rows + length work.kept.rows ≡ length made.rows

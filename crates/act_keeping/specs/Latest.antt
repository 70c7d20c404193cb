-- The latest result of a contract, and what its evaluation at another version keeps of it. This profile's own.
use Rattle.std.specs.Prelude.{◌≡◌, ℕ, ◌≤◌, ◌==◌, max, min, nat_lt, if◌then◌else◌, Bool, false, ℤ, ◌≤ℤ◌, List, [], length, take, Option, Some, None, option_map}
use Rattle.std.specs.Arc.{arc_value}
use Rattle.std.specs.List.{filter_map, reduce, slice_get}
use Rattle.std.specs.declared.alloc.Global.{Global}
use Rattle.std.specs.declared.sync.Arc.{Arc}
use Rattle.act_date.specs.Civil.{last_day}
use Rattle.act_model.specs.Run.{Stream}
use Rattle.act_model.specs.declared.observed.Obs.{Obs}
use Rattle.act_profile.specs.Kept.{KeptRows, kept_of}
use Rattle.act_profile.specs.Reads.{cut_of}
use Rattle.act_profile.specs.Run.{Contracts, run_of}
use Rattle.act_history.specs.History.{History, entries_of, version_of}
use Rattle.act_keeping.specs.Keeping.{IsResult}
use Rattle.act_keeping.specs.declared.latest.Cached.{Cached}
use Rattle.act_keeping.specs.declared.latest.LatestResult.{LatestResult}
use Rattle.act_history.specs.declared.mark.Mark.{Mark}
use Rattle.act_history.specs.declared.mark.Mark.TheVariants.{Finish}

-- ---- what is kept

-- the version at which a mark gives a contract a result
abbrev pub finished_version : ℕ → Mark → Option ℕ
finished_version c (Finish contract version) = if contract == c then Some version else None
finished_version c other = None

-- the cached version of a contract: the greatest at which it has a result
abbrev pub cached_version : History → ℕ → Option ℕ
cached_version history c = reduce max (filter_map (finished_version c) history.marks)

-- no rows
abbrev pub nothing_kept : KeptRows
nothing_kept = record { rows = []; close = None }

-- the cut between two versions: from the smaller to the greater
abbrev pub cut_between : Contracts → List Obs → ℕ → ℕ → ℕ → Option ℤ
cut_between contracts entries c u v = cut_of contracts c entries (min u v) (max u v)

-- what a contract's evaluation at version v keeps of its run at version u: what there is before the cut between the two
abbrev pub kept_between : Contracts → List Obs → ℕ → ℕ → ℕ → KeptRows
kept_between contracts entries c u v = kept_of (run_of contracts (take u entries) c) (cut_between contracts entries c u v)

-- the same of the run at the cached version, where there is one
abbrev pub kept_at : Contracts → List Obs → ℕ → ℕ → Option ℕ → KeptRows
kept_at contracts entries c v None = nothing_kept
kept_at contracts entries c v (Some u) = kept_between contracts entries c u v

-- the cut from the cached version, where there is one
abbrev pub cut_at : Contracts → List Obs → ℕ → ℕ → Option ℕ → Option ℤ
cut_at contracts entries c v None = None
cut_at contracts entries c v (Some u) = cut_between contracts entries c u v

-- the rows that the evaluation of a contract at a version keeps, and the cut under which it does
abbrev pub kept_for : History → ℕ → ℕ → KeptRows
kept_for history c v = kept_at history.portfolio.contracts (entries_of history) c v (cached_version history c)

abbrev pub cut_for : History → ℕ → ℕ → Option ℤ
cut_for history c v = cut_at history.portfolio.contracts (entries_of history) c v (cached_version history c)

-- ---- what the board has of it

-- the latest results of all contracts are those of a history
pub record AreLatest (history : History) (latest : List (Option LatestResult)) : Type 0 where
  pub count : length latest ≡ length history.portfolio.contracts.terms
  pub versions : (c : ℕ) (one : Option LatestResult) → slice_get latest c ≡ Some one → option_map (λ (l : LatestResult). l.version) one ≡ cached_version history c
  pub results : (c : ℕ) (one : LatestResult) → slice_get latest c ≡ Some (Some one) → (one.version ≤ version_of history) × IsResult history c one.version (arc_value one.run)

-- there are so many places, and no result
pub record NoneYet (contracts : ℕ) (latest : List (Option LatestResult)) : Type 0 where
  pub count : length latest ≡ contracts
  pub each : (c : ℕ) (one : Option LatestResult) → slice_get latest c ≡ Some one → one ≡ None

-- a latest result is of a later version
abbrev pub is_later : Option LatestResult → ℕ → Bool
is_later None version = false
is_later (Some one) version = nat_lt version one.version

-- ---- what an evaluation goes on from

-- what is kept of a cached run under a cut
abbrev pub kept_under : Option (Arc Stream Global) → Option ℤ → KeptRows
kept_under None cut = nothing_kept
kept_under (Some run) cut = kept_of (arc_value run) cut

abbrev pub kept_rows : Cached → KeptRows
kept_rows cached = kept_under cached.run cached.cut

-- it is the latest result of a contract, with the cut from the smaller to the greater of its version and another
abbrev pub IsCached : Contracts → List Obs → ℕ → ℕ → Option LatestResult → Cached → Type 0
IsCached contracts entries c v None cached = (cached.run ≡ None) × (cached.cut ≡ None)
IsCached contracts entries c v (Some one) cached =
    (run : Arc Stream Global) × (cached.run ≡ Some run) × (arc_value run ≡ arc_value one.run)
    × (cached.cut ≡ cut_between contracts entries c one.version v)
    × ((day : ℤ) → cached.cut ≡ Some day → day ≤ℤ last_day)

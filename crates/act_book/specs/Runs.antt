-- How a book's runs lie among its entries, which stand in chunks of 256. This profile's own.
use Rattle.std.specs.Prelude.{◌≡◌, ℕ, ◌+◌, ◌*◌, ◌<◌, ◌≤◌, List, ◌++◌, length, take, slice_index_or}
use Rattle.std.specs.Arc.{arc_value}
use Rattle.std.specs.List.{flat_map}
use Rattle.std.specs.declared.sync.Arc.{Arc}
use Rattle.std.specs.declared.alloc.Global.{Global}
use Rattle.act_model.specs.declared.observed.Obs.{Obs}

-- how many entries a chunk has
abbrev pub chunk : ℕ
chunk = 256

-- the entries of runs, one behind another
abbrev pub entries_of : List (Arc (List Obs) Global) → List Obs
entries_of runs = flat_map arc_value runs

-- the run has the entries of whole chunks, the last of which ends so many chunks after the book's begin
pub record EndsAt (entries : List Obs) (end : ℕ) (run : List Obs) : Type 0 where
  pub front : ℕ
  pub some : front < end
  pub joined : take (chunk * front) entries ++ run ≡ take (chunk * end) entries

-- for each of the first chunks there is a run that ends with it
pub record AreRuns (entries : List Obs) (runs : List (Arc (List Obs) Global)) : Type 0 where
  pub within : chunk * length runs ≤ length entries
  pub ends : (k : ℕ) (d : Arc (List Obs) Global) → k < length runs → EndsAt entries (k + 1) (arc_value (slice_index_or runs k d))

-- the recent runs have the first of the entries behind so many chunks, one behind another
pub record AreRecent (entries : List Obs) (chunks : ℕ) (recent : List (Arc (List Obs) Global)) : Type 0 where
  pub within : chunk * chunks + length (entries_of recent) ≤ length entries
  pub joined : take (chunk * chunks) entries ++ entries_of recent ≡ take (chunk * chunks + length (entries_of recent)) entries

-- What contracts see of files.
use Rattle.std.specs.Prelude.{◌≡◌, ℕ, ◌<◌, ◌≤◌, List, ◌∷◌, [], ◌++◌, length, Option, None, IfSome, option_map, Result, Ok, Err, Vec}
use Rattle.std.specs.declared.alloc.Global.{Global}
use Rattle.act_io.specs.declared.files.FetchFault.{FetchFault}
use Rattle.act_io.specs.declared.files.FetchFault.TheVariants.{Failed, TooLong, NoMemory}
use Rattle.act_io.specs.Faults.{next_count}

-- the bytes under a name and the names that were asked for in their order, where the files tell them; how often a name was asked for, and how often
-- reading has failed, as far as counters go; and at which of these calls, from 1, it failed last, 0 for none
pub record World : Type 0 where
  pub content : List ℕ → Option (List ℕ)
  pub asked : Option (List (List ℕ))
  pub calls : ℕ
  pub faults : ℕ
  pub failed_at : ℕ

-- a name was asked for
abbrev pub asked_for : List ℕ → World → World
asked_for name world =
    record world { asked = option_map (λ (names : List (List ℕ)). names ++ name ∷ []) world.asked; calls = next_count world.calls }

-- reading has failed once more, at the last call
abbrev pub read_failed : World → World
read_failed world = record world { faults = next_count world.faults; failed_at = world.calls }

-- how often a name was asked for, how often reading has failed, and at which call it failed last
pub record FetchCounts : Type 0 where
  pub calls : ℕ
  pub faults : ℕ
  pub failed_at : ℕ

-- what contracts see of files that tell nothing else
abbrev pub untold : FetchCounts → World
untold fetched =
    record { content = λ name. None; asked = None; calls = fetched.calls; faults = fetched.faults; failed_at = fetched.failed_at }

-- The file's bytes where they are no more than the limit, and TooLong where they are more; unless reading failed or memory ran out. No file
-- changes, and the name was asked for, unless memory ran out.
abbrev pub Fetches : List ℕ → ℕ → World → Result (Vec ℕ Global) FetchFault → World → Type 0
Fetches name limit before (Ok read) after =
    IfSome (before.content name) (λ bytes. read.items ≡ bytes) × (length read.items ≤ limit) × (after ≡ asked_for name before)
Fetches name limit before (Err TooLong) after = IfSome (before.content name) (λ bytes. limit < length bytes) × (after ≡ asked_for name before)
Fetches name limit before (Err Failed) after = after ≡ read_failed (asked_for name before)
Fetches name limit before (Err NoMemory) after = after ≡ before

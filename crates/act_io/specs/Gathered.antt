-- What the standard output gathers before it is written.
use Rattle.std.specs.Prelude.{◌≡◌, ◌⊎◌, ℕ, ◌+◌, List, [], ◌++◌, length, take, Result, Ok, Err}
use Rattle.act_io.specs.Faults.{next_count}
use Rattle.act_io.specs.declared.sink.PutFault.{PutFault}
use Rattle.act_io.specs.declared.sink.PutFault.TheVariants.{Failed, NoMemory}

-- bytes that are taken and not yet written, how many were handed to the system by writes that didn't fail, as the sink counts them, and the faults so far
pub record Gathering : Type 0 where
  pub gathered : List ℕ
  pub handed : ℕ
  pub faults : ℕ

-- so many bytes more were taken: each is gathered, or counted as handed to the system
abbrev pub Accounts : Gathering → Result ℕ PutFault → Gathering → Type 0
Accounts before (Ok n) after = after.handed + length after.gathered ≡ before.handed + length before.gathered + n
Accounts before (Err fault) after = Unit {0}

-- the first n bytes of a piece are gathered behind the others, or behind none where the others were written before; or none is left, since
-- all was written, those bytes too, or a write failed
abbrev pub Gathers : List ℕ → List ℕ → List ℕ → Result ℕ PutFault → Type 0
Gathers piece before after (Ok n) = (after ≡ before ++ take n piece) ⊎ (after ≡ take n piece) ⊎ (after ≡ [])
Gathers piece before after (Err fault) = after ≡ []

-- the count of faults, one higher where writing failed
abbrev pub finish_faults : {A : Type 0} → Result A PutFault → ℕ → ℕ
finish_faults (Err Failed) before = next_count before
finish_faults (Err NoMemory) before = before
finish_faults (Ok answer) before = before

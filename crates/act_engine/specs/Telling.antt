-- What a status tells of faults, and what is written where files tell their bytes. This profile's own.
use Rattle.std.specs.Prelude.{◌≡◌, ◌⊎◌, List, ℕ, Option, Some, None, Result, Ok, Err}
use Rattle.act_io.specs.Faults.{next_count}
use Rattle.act_io.specs.Page.{written_on}
use Rattle.act_engine.specs.Ending.{EndsWhole, Meaning, Outcome, Outside}
use Rattle.act_engine.specs.Reading.{Done, Fetch, Reading, Refuse, told}
use Rattle.act_engine.specs.Refusal.{Refusal, Unread, refusal_line, refusal_status}
use Rattle.act_engine.specs.declared.status.Status.{Status}
use Rattle.act_engine.specs.declared.status.Status.TheVariants.{Done as DoneStatus, Wrong, ReadFault, WriteFault, Unfinished, NoMemory}

-- ---- what the statuses are of

-- no refusal in what is to be read is that of a file that wasn't read: this one comes of reading alone
abbrev pub IsRegularReading : {A : Type 0} → Reading A → Type 0
IsRegularReading (Done value) = Unit {0}
IsRegularReading (Refuse (Unread name)) = ⊥
IsRegularReading (Refuse refusal) = Unit {0}
IsRegularReading (Fetch name limit next) = (bytes : List ℕ) → IsRegularReading (next bytes)

-- the status of a text that is written whole, and neither a refusal's nor a fault's
abbrev pub IsOfText : Status → Type 0
IsOfText status = (status ≡ DoneStatus) ⊎ (status ≡ Wrong) ⊎ (status ≡ Unfinished)

-- a meaning that leaves the statuses of faults to faults
pub record IsRegular {A B : Type 0} (meaning : Meaning A B) : Type 0 where
  pub reading : IsRegularReading meaning.reading
  pub statuses : (value : A) (outcome : Outcome) (hands : Option B) → meaning.IsOutcome value outcome hands → IsOfText outcome.status

-- ---- what they tell

-- What failed, by the status: with ReadFault a read, which was the files' last call, with WriteFault a write, and with others nothing. With WriteFault and
-- NoMemory a read may have failed before, whose line was cut short.
abbrev pub TellsFaults : Outside → Status → Outside → Type 0
TellsFaults before ReadFault after =
    (after.world.faults ≡ next_count before.world.faults) × (after.world.failed_at ≡ after.world.calls) × (after.page.faults ≡ before.page.faults)
TellsFaults before WriteFault after = after.page.faults ≡ next_count before.page.faults
TellsFaults before NoMemory after = after.page.faults ≡ before.page.faults
TellsFaults before others after = (after.world.faults ≡ before.world.faults) × (after.page.faults ≡ before.page.faults)

-- what is wanted was written whole, with its status: of a value one of its outcomes, and of a refusal its line
abbrev pub IsWritten : {A B : Type 0} → Meaning A B → List ℕ → Result A Refusal → Outside → Status → Option B → Outside → Type 0
IsWritten meaning usage (Ok value) before status handed after =
    (outcome : Outcome) × meaning.IsOutcome value outcome handed × EndsWhole outcome handed before status handed after
IsWritten meaning usage (Err refusal) before status handed after =
    (status ≡ refusal_status refusal) × (after.page ≡ written_on before.page (refusal_line usage refusal)) × (after.rows ≡ before.rows) × (handed ≡ None)

-- a read failed, a write did, or memory ran out, as the status tells
abbrev pub Fails : Outside → Status → Outside → Type 0
Fails before status after =
    ((status ≡ ReadFault) × (after.world.faults ≡ next_count before.world.faults))
    ⊎ ((status ≡ WriteFault) × (after.page.faults ≡ next_count before.page.faults))
    ⊎ (status ≡ NoMemory)

-- where files tell their bytes, what these come to was written whole, unless something failed
abbrev pub EndsAsTold : {A B : Type 0} → Meaning A B → List ℕ → Outside → Status → Option B → Outside → Type 0
EndsAsTold {A} meaning usage before status handed after =
    (wanted : Result A Refusal) → told before.world.content meaning.reading ≡ Some wanted
    → IsWritten meaning usage wanted before status handed after ⊎ Fails before status after

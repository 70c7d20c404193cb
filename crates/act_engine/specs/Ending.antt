-- How a command ends: by what it reads, what it writes then, and what contracts see of the outside before and after. This profile's own.
use Rattle.std.specs.Prelude.{◌≡◌, ◌⊎◌, ℕ, ◌+◌, List, Option, None, Result, Ok, Err}
use Rattle.act_io.specs.Page.{Page, written_on}
use Rattle.act_io.specs.World.{World}
use Rattle.act_engine.specs.Reading.{Halt, IsTold, Reading, Reads, Refuse, Refused, Stopped, told}
use Rattle.act_engine.specs.Refusal.{Words, refusal_line, refusal_status}
use Rattle.act_engine.specs.Writing.{IsPart, IsProperPart}
use Rattle.act_engine.specs.declared.status.Status.{Status}
use Rattle.act_engine.specs.declared.status.Status.TheVariants.{WriteFault, NoMemory}
use Rattle.act_engine.specs.declared.writing.Failure.TheVariants.{Sink, Memory}

-- ---- what a command means

-- a status, the text that is written with it, and how many rows are counted for it
pub record Outcome : Type 0 where
  pub status : Status
  pub text : List ℕ
  pub rows : ℕ

-- what a command means: what it reads, and what may come of that: an outcome, and what is handed out with it
pub record Meaning (A B : Type 0) : Type 1 where
  pub reading : Reading A
  pub IsOutcome : A → Outcome → Option B → Type 0

-- words of no form are refused
abbrev pub words_meaning : {B : Type 0} → Meaning (Unit {0}) B
words_meaning = record { reading = Refuse Words; IsOutcome = λ _ _ _. ⊥ }

-- what contracts see of the outside: the files, the sink, and how many rows were counted
pub record Outside : Type 0 where
  pub world : World
  pub page : Page
  pub rows : ℕ

-- ---- how it ends

-- of a text a part was written: the sink failed then, or memory ran out
abbrev pub StopsWithin : List ℕ → Page → Status → Page → Type 0
StopsWithin text before status after =
    ((status ≡ WriteFault) × IsProperPart text before after) ⊎ ((status ≡ NoMemory) × IsPart text before after)

-- an outcome was written whole, with its status: its rows were counted, and what goes with it is handed out
pub record EndsWhole {B : Type 0} (outcome : Outcome) (hands : Option B) (before : Outside) (status : Status) (handed : Option B) (after : Outside) : Type 0 where
  pub status_is : status ≡ outcome.status
  pub put : after.page ≡ written_on before.page outcome.text
  pub counted : after.rows ≡ before.rows + outcome.rows
  pub hands_out : handed ≡ hands

-- a refusal's line was written whole, with its status, or a part of it; nothing was counted, and nothing is handed out
pub record EndsRefused {B : Type 0} (line : List ℕ) (wanted : Status) (before : Outside) (status : Status) (handed : Option B) (after : Outside) : Type 0 where
  pub wrote : ((status ≡ wanted) × (after.page ≡ written_on before.page line)) ⊎ StopsWithin line before.page status after.page
  pub counted : after.rows ≡ before.rows
  pub hands_out : handed ≡ None

-- by what was read: an outcome of it was written whole or in part, or the line of the refusal, or memory ran out before anything was
abbrev pub EndsBy : {A B : Type 0} → Meaning A B → List ℕ → Result A Halt → Outside → Status → Option B → Outside → Type 0
EndsBy {A} {B} meaning usage (Ok value) before status handed after =
    (outcome : Outcome) × (hands : Option B) × meaning.IsOutcome value outcome hands
    × (EndsWhole outcome hands before status handed after ⊎ ((handed ≡ None) × StopsWithin outcome.text before.page status after.page))
EndsBy {A} {B} meaning usage (Err (Refused refusal)) before status handed after =
    EndsRefused (refusal_line usage refusal) (refusal_status refusal) before status handed after
EndsBy {A} {B} meaning usage (Err (Stopped Sink)) before status handed after = ⊥
EndsBy {A} {B} meaning usage (Err (Stopped Memory)) before status handed after = (status ≡ NoMemory) × (handed ≡ None) × (after.page ≡ before.page)

-- How a command ends that has this usage line: its files were read, as far as they are told with what they tell, and it ended by what came of that.
pub record Ends {A B : Type 0} (meaning : Meaning A B) (usage : List ℕ) (before : Outside) (status : Status) (handed : Option B) (after : Outside) : Type 0 where
  pub read : Result A Halt
  pub reads : Reads meaning.reading before.world read after.world
  pub told_is : IsTold (told before.world.content meaning.reading) read
  pub ends : EndsBy meaning usage read before status handed after

-- ---- before the line of a refusal is written

-- what a command comes to: its outcome was written whole; it was refused, and nothing was; or it stopped, and a part was, or nothing
abbrev pub Goes : {A B : Type 0} → Meaning A B → Outside → Result Status Halt → Option B → Outside → Type 0
Goes {A} {B} meaning before (Ok status) handed after =
    (value : A) × (outcome : Outcome) × Reads meaning.reading before.world (Ok value) after.world × meaning.IsOutcome value outcome handed
    × EndsWhole outcome handed before status handed after
Goes {A} {B} meaning before (Err (Refused refusal)) handed after =
    Reads meaning.reading before.world (Err (Refused refusal)) after.world × (handed ≡ None) × (after.page ≡ before.page) × (after.rows ≡ before.rows)
Goes {A} {B} meaning before (Err (Stopped Sink)) handed after =
    (handed ≡ None)
    × ((value : A) × (outcome : Outcome) × (hands : Option B) × Reads meaning.reading before.world (Ok value) after.world × meaning.IsOutcome value outcome hands
    × IsProperPart outcome.text before.page after.page)
Goes {A} {B} meaning before (Err (Stopped Memory)) handed after =
    (handed ≡ None)
    × ((Reads meaning.reading before.world (Err (Stopped Memory)) after.world × (after.page ≡ before.page))
    ⊎ ((value : A) × (outcome : Outcome) × (hands : Option B) × Reads meaning.reading before.world (Ok value) after.world × meaning.IsOutcome value outcome hands
    × IsPart outcome.text before.page after.page))

-- what is said of a halt at the end: a refusal's line is written, whole or in part; where writing stopped, or memory ran out, nothing is
abbrev pub Concludes : List ℕ → Halt → Page → Status → Page → Type 0
Concludes usage (Refused refusal) before status after =
    ((status ≡ refusal_status refusal) × (after ≡ written_on before (refusal_line usage refusal)))
    ⊎ StopsWithin (refusal_line usage refusal) before status after
Concludes usage (Stopped Sink) before status after = (status ≡ WriteFault) × (after ≡ before)
Concludes usage (Stopped Memory) before status after = (status ≡ NoMemory) × (after ≡ before)

-- Texts that are written piece by piece, up to a fault. This profile's own.
use Rattle.std.specs.Prelude.{◌≡◌, ◌<◌, ℕ, List, [], ◌∷◌, decimal, length, take, Result, Ok, Err}
use Rattle.act_io.specs.Page.{Page, write_failed, written_on}
use Rattle.act_engine.specs.declared.status.Status.{Status}
use Rattle.act_engine.specs.declared.status.Status.TheVariants.{WriteFault, NoMemory}
use Rattle.act_engine.specs.declared.writing.Failure.{Failure}
use Rattle.act_engine.specs.declared.writing.Failure.TheVariants.{Sink, Memory}
use Rattle.act_text.specs.Lines.{line_of}

-- a first part of a text was written: nothing of it, something, or all
pub record IsPart (text : List ℕ) (before after : Page) : Type 0 where
  pub bytes : ℕ
  pub put : after ≡ written_on before (take bytes text)

-- the same, but not all of it, and then the sink failed
pub record IsProperPart (text : List ℕ) (before after : Page) : Type 0 where
  pub bytes : ℕ
  pub fewer : bytes < length text
  pub put : after ≡ write_failed (written_on before (take bytes text))

-- what was written of a text where writing stopped
abbrev pub StopsIn : Failure → List ℕ → Page → Page → Type 0
StopsIn Sink text before after = IsProperPart text before after
StopsIn Memory text before after = IsPart text before after

-- a text was written whole, or a first part of it where writing stopped
abbrev pub Writes : {A : Type 0} → List ℕ → Page → Result A Failure → Page → Type 0
Writes text before (Ok value) after = after ≡ written_on before text
Writes text before (Err stop) after = StopsIn stop text before after

-- the status of what was written whole, or of why it wasn't
abbrev pub status_of : Result Status Failure → Status
status_of (Ok status) = status
status_of (Err Sink) = WriteFault
status_of (Err Memory) = NoMemory

-- the line of a word and a number
unfoldable pub number_line : List ℕ → ℕ → List ℕ
number_line word number = line_of word (decimal number ∷ [])

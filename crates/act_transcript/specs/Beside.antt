-- Blocks that are put together side by side. This profile's own.
use Rattle.std.specs.Prelude.{◌≡◌, ◌≢◌, ◌<◌, ◌⊎◌, ◌++◌, ℕ, ℤ, List, [], length, Option, None, Some}
use Rattle.std.specs.List.{flat_map, slice_get}
use Rattle.act_model.specs.Names.{NameLists}
use Rattle.act_model.specs.Run.{Stream}
use Rattle.act_profile.specs.DayOrder.{AreInDayOrder}
use Rattle.act_text.specs.Kept.{Lines}
use Rattle.act_text.specs.Lines.{row_text}
use Rattle.act_transcript.specs.KnownLines.{IsBlock, IsKnownTo, known_to}
use Rattle.act_transcript.specs.declared.blocks.Known.{Known}

-- what stands in front of lines, these, and what stands behind
abbrev pub lines_text : Lines → List ℕ
lines_text lines = lines.front ++ flat_map (row_text lines.names) lines.rows ++ lines.back

-- lines are the block of a contract with its run, or there are none: memory ran out for them
abbrev pub IsBlockOrNone : ℕ → Stream → Lines → Type 0
IsBlockOrNone c run lines = IsBlock c run lines ⊎ (lines_text lines ≡ [])

-- where a cut is told of a place, the rows of a contract's run stand by their days, and lines are known to it
abbrev pub IsTold : List Known → ℕ → Lines → ℕ → Stream → Type 0
IsTold known place lines c run = (cut : Option ℤ) → slice_get known place ≡ Some (known_to cut) → AreInDayOrder run.rows × IsKnownTo c cut lines run

-- lines can be made the block of the run at a place: its contract has a name, they are written with the names, and what is told of the place is so
pub record CanRenew (names : NameLists) (known : List Known) (runs : List (ℕ × Stream)) (place : ℕ) (lines : Lines) : Type 0 where
  pub run : ℕ × Stream
  pub is : slice_get runs place ≡ Some run
  pub named : run.0 < length names.contracts
  pub written : lines.names ≡ names
  pub told : IsTold known place lines run.0 run.1

-- lines were made the block of the run at a place, as far as there was memory
pub record WereRenewed (names : NameLists) (runs : List (ℕ × Stream)) (place : ℕ) (lines : Lines) : Type 0 where
  pub written : lines.names ≡ names
  pub block : (run : ℕ × Stream) → slice_get runs place ≡ Some run → IsBlockOrNone run.0 run.1 lines

-- each lines can be made the block of the run at their place
abbrev pub CanRenewAll : NameLists → List Known → List (ℕ × Stream) → List Lines → Type 0
CanRenewAll names known runs kept = (place : ℕ) (lines : Lines) → slice_get kept place ≡ Some lines → CanRenew names known runs place lines

-- and they were
abbrev pub AllWereRenewed : NameLists → List (ℕ × Stream) → List Lines → Type 0
AllWereRenewed names runs kept = (place : ℕ) (lines : Lines) → slice_get kept place ≡ Some lines → WereRenewed names runs place lines

-- where a cut is told of a place, it is that all of a block is known, and there are lines
abbrev pub IsWhole : List Lines → ℕ → Option ℤ → Type 0
IsWhole kept place cut = (cut ≡ None) × ((lines : Lines) → slice_get kept place ≡ Some lines → lines_text lines ≢ [])

-- of each place all is told, or nothing
abbrev pub AreWhole : List Known → List Lines → Type 0
AreWhole known kept = (place : ℕ) (cut : Option ℤ) → slice_get known place ≡ Some (known_to cut) → IsWhole kept place cut

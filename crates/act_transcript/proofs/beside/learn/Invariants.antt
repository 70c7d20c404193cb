use Rattle.std.proofs.Common.{◌≡◌, ◌<◌, ℕ, ℤ, Option, Some, length}
use Rattle.std.specs.List.{slice_get}
use Rattle.act_transcript.specs.Beside.{IsWhole}
use Rattle.act_transcript.specs.KnownLines.{known_to}
use Rattle.act_transcript.proofs.beside.learn.Given as goal

-- of the blocks before this one all is known, or nothing
abbrev pub invariant-loop-place : goal.invariant-loop-place
invariant-loop-place l = record {
  count : length l.known ≡ length l.fn.known;
  each : (place : ℕ) (cut : Option ℤ) → place < l.place → slice_get l.known place ≡ Some (known_to cut) → IsWhole l.kept place cut;
}

use Rattle.std.proofs.Common.{◌≡◌, ◌<◌, ℕ, ℤ, Option, Some, length}
use Rattle.std.specs.List.{slice_get}
use Rattle.act_transcript.specs.KnownLines.{known_to}
use Rattle.act_transcript.proofs.cuts.tell.Given as goal

-- what is known of the contracts before this one is their cuts
abbrev pub invariant-loop-place : goal.invariant-loop-place
invariant-loop-place l = record {
  count : length l.known ≡ length l.fn.known;
  each : (c : ℕ) (cut : Option ℤ) → c < l.place → slice_get l.known c ≡ Some (known_to cut) → slice_get l.cuts c ≡ Some cut;
}

use Rattle.std.proofs.Common.{◌≡◌, ℕ, ℤ, Option, Some, ◌∙◌, arith}
use Rattle.std.specs.List.{slice_get}
use Rattle.std.proofs.lemmas.List.{length-set}
use Rattle.act_transcript.proofs.KnownLines.{told-next}
use Rattle.act_transcript.proofs.cuts.tell.Goals as goal

pub loop-place-preserved : goal.loop-place-preserved
loop-place-preserved c = record {
  count = length-set c.loop-place.known c.loop-place.place _ ∙ c.loop-place.invariant.count;
  each = told-next (λ (d : ℕ) (cut : Option ℤ). slice_get c.args.cuts.now d ≡ Some cut) c.loop-place.known c.loop-place.place c.known_by.result (omega (arith, c.loop-place-test.true, c.loop-place.invariant.count)) c.known_by.ensures c.loop-place.invariant.each;
}

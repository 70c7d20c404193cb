use Rattle.std.proofs.Common.{◌∙◌, arith}
use Rattle.std.proofs.lemmas.List.{length-set}
use Rattle.std.proofs.lemmas.Option.{slice_get_within}
use Rattle.act_transcript.specs.Beside.{IsWhole}
use Rattle.act_transcript.proofs.KnownLines.{told-next}
use Rattle.act_transcript.proofs.beside.learn.Goals as goal

pub loop-place-preserved : goal.loop-place-preserved
loop-place-preserved c = record {
  count = length-set c.loop-place.known c.loop-place.place _ ∙ c.loop-place.invariant.count;
  each = told-next (IsWhole c.args.kept.now) c.loop-place.known c.loop-place.place c.known_of.result (omega (arith, c.loop-place-test.true, c.loop-place.invariant.count)) c.known_of.ensures c.loop-place.invariant.each;
}

pub returns-clause-whole : goal.returns-clause-whole
returns-clause-whole c = λ place cut is.
    c.loop-place.invariant.each place cut (omega (arith, slice_get_within c.loop-place.known place _ is, c.loop-place.invariant.count, c.loop-place-test.false)) is

use Rattle.std.proofs.Common.{Some, length, refl, ap, ◌∙◌}
use Rattle.std.proofs.lemmas.Option.{slice_get_read}
use Rattle.act_transcript.specs.declared.blocks.Known.{Known}
use Rattle.act_transcript.proofs.KnownLines.{nothing-told}
use Rattle.act_transcript.proofs.blocks.known_at.Goals as goal

pub returns-then-place-known : goal.returns-then-place-known
returns-then-place-known c = λ cut is.
    slice_get_read c.args.known.now (length c.args.known.now) c.args.place c.index-known-place.result refl c.if-place-known.true c.index-known-place.is ∙ ap (λ (known : Known). Some known) is

pub returns-else-place-known : goal.returns-else-place-known
returns-else-place-known c = λ cut is. absurd (nothing-told cut is)

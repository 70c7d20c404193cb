use Rattle.std.proofs.Common.{ℤ, Option, None, Some, ap, ◌∙◌}
use Rattle.std.proofs.lemmas.Option.{slice_get-get_or}
use Rattle.act_transcript.proofs.KnownLines.{nothing-told, same-cut}
use Rattle.act_transcript.proofs.cuts.known_by.Goals as goal

pub returns-then-contract-cuts : goal.returns-then-contract-cuts
returns-then-contract-cuts c = λ cut is. absurd (nothing-told cut is)

pub returns-in-Some : goal.returns-in-Some
returns-in-Some c = λ cut is. slice_get-get_or c.args.cuts.now c.args.contract _ c.if-contract-cuts.false ∙ ap (λ (o : Option ℤ). Some o) (c.in-Some.is ∙ same-cut (Some c.in-Some.day) cut is)

pub returns-in-None : goal.returns-in-None
returns-in-None c = λ cut is. slice_get-get_or c.args.cuts.now c.args.contract _ c.if-contract-cuts.false ∙ ap (λ (o : Option ℤ). Some o) (c.in-None.is ∙ same-cut None cut is)

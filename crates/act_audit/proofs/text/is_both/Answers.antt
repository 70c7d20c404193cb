use Rattle.std.proofs.Common.{◌++◌, List, ℕ, ap, sym, ◌∙◌}
use Rattle.std.proofs.lemmas.Bool.Decides.{Decides-eqb}
use Rattle.std.proofs.lemmas.List.{append_cancel_left}
use Rattle.std.proofs.lemmas.Slice.Eq.{slice_eq-Decides, strip_prefix_is}
use Rattle.act_audit.proofs.text.is_both.Goals as goal

pub returns-in-Some : goal.returns-in-Some
returns-in-Some c =
    let front = c.args.front.now in
    let rest = c.args.rest.now in
    let behind = c.in-Some.behind.now in
    let goes = rw c.in-Some.is at (strip_prefix_is Decides-eqb c.args.text.now front c.strip_prefix.result c.strip_prefix.ensures.cases) in
    let decides = slice_eq-Decides Decides-eqb behind rest c.eq.result c.eq.ensures in (
      λ is. goes ∙ ap (λ (b : List ℕ). front ++ b) (decides.0 is),
      λ whole. decides.1 (append_cancel_left front behind rest (sym goes ∙ whole)),
    )

pub returns-in-None : goal.returns-in-None
returns-in-None c =
    let isnt = rw c.in-None.is at (strip_prefix_is Decides-eqb c.args.text.now c.args.front.now c.strip_prefix.result c.strip_prefix.ensures.cases) in (
      λ is. absurd (cc),
      λ whole. absurd (isnt c.args.rest.now whole),
    )

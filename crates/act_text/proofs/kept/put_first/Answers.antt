use Rattle.std.proofs.Common.{◌≡◌, ap, sym, ◌∙◌, take, drop, ◌++◌}
use Rattle.std.proofs.lemmas.Bool.Decides.{Decides-eqb}
use Rattle.std.proofs.lemmas.Slice.Eq.{slice_eq-Decides}
use Rattle.std.proofs.lemmas.List.{take-append-drop}
use Rattle.act_text.proofs.kept.put_first.Goals as goal

pub returns-then-eq-clause-ok : goal.returns-then-eq-clause-ok
returns-then-eq-clause-ok c =
    let text = c.args.text.now.items in
    let decides = slice_eq-Decides Decides-eqb (take c.args.count c.deref.result.now) c.args.first.now c.eq.result c.eq.ensures in
    let same : take c.args.count text ≡ c.args.first.now = ap (take c.args.count) (sym c.deref.ensures.value) ∙ decides.0 c.if-eq.true in
    sym (take-append-drop c.args.count text) ∙ ap (λ first. first ++ drop c.args.count text) same

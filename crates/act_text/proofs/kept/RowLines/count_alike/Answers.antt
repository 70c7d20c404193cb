use Rattle.std.proofs.Common.{◌≡◌, ◌≤◌, length, take, sym, ap, subst, ◌∙◌, arith}
use Rattle.std.proofs.lemmas.List.{take-take}
use Rattle.act_model.specs.Run.{Stream}
use Rattle.act_text.specs.Kept.{ArePrintedAlike, Lines, rows_of}
use Rattle.act_text.proofs.KeptLines.{printed_alike}
use Rattle.act_text.proofs.kept.RowLines.count_alike.Goals as goal

pub returns-in-Some-clause-alike : goal.returns-in-Some-clause-alike
returns-in-Some-clause-alike c =
    let kept = c.self.inside in
    let k = c.count_alike.result in
    let within : k ≤ length kept.ends.items = omega (arith, c.count_alike.ensures.most, c.len.ensures, kept.ends.ok.0) in
    let rows : rows_of kept.run ≡ c.behind-run.inside.rows = ap rows_of c.in-Some.is ∙ ap (λ (s : Stream). s.rows) (sym (c.behind-run.view_is ∙ c.deref.ensures)) in
    let same : take k c.args.self.now.rows ≡ take k c.behind-run.inside.rows =
    ap (λ (l : Lines). take k l.rows) (sym c.self.view_is) ∙ take-take k (length kept.ends.items) (rows_of kept.run) within ∙ ap (take k) rows in
    subst (λ front. ArePrintedAlike front (take k c.args.rows.now)) (sym same) (printed_alike _ _ c.count_alike.ensures.alike)

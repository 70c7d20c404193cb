use Rattle.std.proofs.Common.{◌≡◌, ◌+◌, ◌≤◌, ◌∙◌, sym, subst, ap, take, drop, length, arith}
use Rattle.std.proofs.lemmas.List.{length-drop, length-take}
use Rattle.act_model.specs.Run.{Stream}
use Rattle.act_text.specs.Kept.{ArePrintedAlike, Lines, rows_of}
use Rattle.act_text.proofs.Framed.{lines_cut}
use Rattle.act_text.proofs.KeptLines.{lines_kept, start_within}
use Rattle.act_text.proofs.kept.RowLines.renew.Goals as goal

pub overflow_add-self-inside : goal.overflow_add-self-inside
overflow_add-self-inside c =
    let kept = c.self.inside in
    let text = drop kept.begin (take kept.end kept.text.items) in
    let rows = take (length kept.ends.items) (rows_of kept.run) in
    let within = start_within kept.names.now rows text kept.ends.items c.count_alike-same.result c.start_of.result c.self.invariant.3
    (subst (λ (l : Lines). c.count_alike-same.result ≤ length l.rows) (sym c.self.view_is) c.count_alike-same.ensures.here) (rw c.deref-2.ensures.value at c.start_of.ensures) in
    omega (arith, within, length-drop kept.begin (take kept.end kept.text.items), length-take kept.end kept.text.items, c.self.invariant.1, c.self.ranges)

pub add_lines-added-requires-clause-are : goal.add_lines-added-requires-clause-are
add_lines-added-requires-clause-are c =
    let kept = c.self.inside in
    let text = c.truncate.new.self.items in
    let rows = take (length kept.ends.items) (rows_of kept.run) in
    let same-rows : c.behind-run.inside.rows ≡ c.behind-run-2.inside.rows =
    ap (λ (s : Stream). s.rows) (c.behind-run.view_is ∙ (c.deref.ensures ∙ sym c.deref-3.ensures) ∙ sym c.behind-run-2.view_is) in
    lines_kept kept.names.now rows c.behind-run-2.inside.rows (drop kept.begin text) kept.ends.items (drop kept.begin c.truncate-2.new.self.items) c.truncate-3.new.self.items c.count_alike-same.result c.start_of.result
    (rw (sym c.truncate.ensures.items) at c.self.invariant.3) (subst (λ (l : Lines). c.count_alike-same.result ≤ length l.rows) (sym c.self.view_is) c.count_alike-same.ensures.here) (rw c.deref-2.ensures.value at c.start_of.ensures)
    (subst (λ rows'. ArePrintedAlike (take c.count_alike-same.result rows) (take c.count_alike-same.result rows')) same-rows
    (subst (λ (l : Lines). ArePrintedAlike (take c.count_alike-same.result l.rows) (take c.count_alike-same.result c.behind-run.inside.rows)) (sym c.self.view_is) c.count_alike-same.ensures.alike))
    (lines_cut kept.begin c.start_of.result text c.truncate-2.new.self.items c.truncate-2.ensures.items) c.truncate-3.ensures.items

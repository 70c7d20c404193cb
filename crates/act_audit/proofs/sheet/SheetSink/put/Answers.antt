use Rattle.std.proofs.Common.{◌≡◌, ◌+◌, ◌++◌, [], List, ℕ, true, drop, ap, sym, ◌∙◌, arith, append-nil, length, take}
use Rattle.std.specs.Prelude.{nat_eq, vec_len}
use Rattle.std.proofs.lemmas.Bool.{eqb-true}
use Rattle.std.specs.List.{starts_with}
use Rattle.std.proofs.lemmas.List.{take_all}
use Rattle.act_audit.proofs.Alike.{empty-list, front-on, slice-on}
use Rattle.act_audit.proofs.Rights.{on_sheet}
use Rattle.act_audit.proofs.sheet.SheetSink.put.Goals as goal

pub returns-then-starts_with-clause-took : goal.returns-then-starts_with-clause-took
returns-then-starts_with-clause-took c =
    let text = c.self.inside.text.now in
    let same = c.self.inside.same in
    let piece = c.args.piece.now in
    let none : c.self.inside.rest.items ≡ [] = empty-list c.self.inside.rest.items (omega (arith, c.self.inside.rest.ok, eqb-true (vec_len c.self.inside.rest) 0 (sym c.is_empty-2.ensures ∙ c.if-is_empty-2.true))) in
    let starts : starts_with nat_eq (drop same text) piece ≡ true =
    ap (λ (t : List ℕ). starts_with nat_eq t piece) (sym (slice-on text same c.self.invariant)) ∙ (sym c.starts_with.ensures.value ∙ c.if-starts_with.true) in
    let before : c.args.self.now ≡ take same text = sym c.self.view_is ∙ (ap (λ (r : List ℕ). take same text ++ r) none ∙ append-nil (take same text)) in (
      omega arith,
      λ some. some,
      ap on_sheet
          (ap (λ (r : List ℕ). take (same + length piece) text ++ r) none
          ∙ (append-nil (take (same + length piece) text)
          ∙ (front-on text piece same starts
          ∙ (ap (λ (w : List ℕ). w ++ piece) (sym before) ∙ ap (λ (p : List ℕ). c.args.self.now ++ p) (sym (take_all (length piece) piece (omega arith))))))),
    )

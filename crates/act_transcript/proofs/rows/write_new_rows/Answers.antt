use Rattle.std.proofs.Common.{◌≡◌, ℕ, ◌+◌, List, ◌++◌, drop, slice_get, Some, sym, ap, ◌∙◌, arith}
use Rattle.std.specs.List.{flat_map}
use Rattle.act_engine.proofs.Lists.{drop-at, drop-past}
use Rattle.act_engine.proofs.Texts.{left-all, left-next, left-none, left-part, writes-part}
use Rattle.act_model.specs.Names.{NameLists}
use Rattle.act_model.specs.declared.run.Row.{Row}
use Rattle.act_text.specs.Lines.{row_text}
use Rattle.act_transcript.proofs.rows.write_new_rows.Goals as goal

-- the lines from a row on begin with that row's
next : (names written-with : NameLists) (rows : List Row) (place : ℕ) (row : Row) (line : List ℕ) → slice_get rows place ≡ Some row → line ≡ row_text written-with row → written-with ≡ names
    → flat_map (row_text names) (drop place rows) ≡ line ++ flat_map (row_text names) (drop (place + 1) rows)
next names written-with rows place row line here text same =
    ap (flat_map (row_text names)) (drop-at rows place row here)
    ∙ ap (λ line. line ++ flat_map (row_text names) (drop (place + 1) rows)) (sym (text ∙ ap (λ names. row_text names row) same))

pub returns-in_err-write_text : goal.returns-in_err-write_text
returns-in_err-write_text g c =
    let here = next c.args.names.now _ c.args.rows.now c.places.place _ _ c.row.ensures (c.line.ensures ∙ c.print.ensures.bytes) c.places.invariant.names in
    writes-part c.from_residual.result _ _ _ _ c.from_residual.ensures.1 (left-part c.in_err-write_text.field-0.0 _ _ _ _ _ _ _ c.places.invariant.text here c.in_err-write_text.ensures)

pub places-preserved : goal.places-preserved
places-preserved g c =
    let here = next c.args.names.now _ c.args.rows.now c.places.place _ _ c.row.ensures (c.line.ensures ∙ c.print.ensures.bytes) c.places.invariant.names in
    record { text = left-next _ _ _ _ _ _ _ c.places.invariant.text here c.in_ok-write_text.ensures; names = c.print.ensures.names ∙ c.places.invariant.names }

pub places-init : goal.places-init
places-init g c = record { text = left-all _ _; names = c.new-printer.ensures.names }

pub returns : goal.returns
returns g c =
    left-none _ _ _ _ c.places.invariant.text (ap (flat_map (row_text c.args.names.now)) (drop-past c.args.rows.now c.places.place (omega (arith, c.places-test.false))))

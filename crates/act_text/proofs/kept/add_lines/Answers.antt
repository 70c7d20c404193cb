use Rattle.std.proofs.Common.{◌≡◌, ◌-◌, ◌∷◌, [], ◌++◌, ap, sym, ◌∙◌, length, take, drop, subst, rules, slice_get, Some, arith}
use Rattle.std.proofs.lemmas.List.{length-append, length-drop, take-append-le}
use Rattle.act_text.specs.Lines.{row_text}
use Rattle.act_text.proofs.Framed.{line_behind}
use Rattle.act_text.proofs.KeptLines.{lines_more}
use Rattle.act_text.proofs.kept.add_lines.Goals as goal

pub lines-preserved : goal.lines-preserved
lines-preserved c =
    let begin = c.args.begin in
    let text = c.lines.text.items in
    let text' = c.add_line.new.text.items in
    let line = row_text c.args.names.now c.row.result in
    let behind : text' ≡ text ++ line = c.in_ok-add_line.ensures.text ∙ ap (λ bytes. text ++ bytes) (c.line.ensures ∙ c.print.ensures.bytes ∙ ap (λ names. row_text names c.row.result) c.lines.invariant.names) in
    let long = length-append text line in
    record {
      begin = omega (arith, c.lines.invariant.begin, ap length behind, long);
      front = ap (take begin) behind ∙ take-append-le begin text line c.lines.invariant.begin ∙ c.lines.invariant.front;
      within = omega (arith, c.lines-test.true, c.len-in-lines.ensures, c.count-in-lines.ensures, ap length c.in_ok-add_line.ensures.ends, length-append c.lines.ends.items ((length text' - begin) ∷ []));
      are = lines_more c.args.names.now c.args.rows.now (drop begin text) c.lines.ends.items (drop begin text') c.add_line.new.ends.items c.row.result c.lines.invariant.are
          (subst (λ n. slice_get c.args.rows.now n ≡ Some c.row.result) (c.len-in-lines-2.ensures ∙ search rules) c.row.ensures)
          (line_behind begin text text' line c.lines.invariant.begin behind)
          (c.in_ok-add_line.ensures.ends ∙ ap (λ end. c.lines.ends.items ++ end ∷ []) (sym (length-drop begin text')));
      names = c.print.ensures.names ∙ c.lines.invariant.names;
    }

use Rattle.std.proofs.Common.{◌++◌, drop, ap, ◌∙◌}
use Rattle.act_date.specs.Text.{date_text}
use Rattle.act_text.specs.Again.{PrintedLine, other_cells_text}
use Rattle.act_text.specs.Lines.{cells_text}
use Rattle.act_text.proofs.row.RowPrinter.print.Goals as goal

pub returns-then-ends_as-clause-bytes : goal.returns-then-ends_as-clause-bytes
unfolding cells_text
returns-then-ends_as-clause-bytes c =
    let rest = (c.ends_as.ensures c.if-ends_as.true).1 in
    c.set_day.ensures
    ∙ ap (λ rest. date_text c.args.row.now.day ++ rest)
    (ap (λ (line : PrintedLine). drop 10 line.bytes) c.self.view_is ∙ rest ∙ ap (other_cells_text c.args.self.now.names) c.of-cells.ensures)

pub returns-else-ends_as-clause-bytes : goal.returns-else-ends_as-clause-bytes
unfolding cells_text
returns-else-ends_as-clause-bytes c =
    c.print_anew.ensures.bytes ∙ ap (λ cells. date_text c.args.row.now.day ++ other_cells_text c.args.self.now.names cells) c.of-cells.ensures

use Rattle.std.proofs.Common.{Some, ap, ◌∙◌, subst}
use Rattle.act_text.specs.Again.{EndsAs, PrintedLine}
use Rattle.act_text.proofs.row.RowPrinter.ends_as.Goals as goal

pub returns-in-Some : goal.returns-in-Some
returns-in-Some c = λ h.
    subst (λ (line : PrintedLine). EndsAs line.names (Some c.args.cells.now) line.bytes) c.self.view_is
    (subst (λ last. EndsAs c.self.inside.names.now last c.self.inside.line) (c.in-Some.is ∙ ap Some (c.are.ensures h)) c.self.invariant)

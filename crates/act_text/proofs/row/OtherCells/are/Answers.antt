use Rattle.std.proofs.Common.{◌∙◌, sym}
use Rattle.act_text.proofs.Again.{same_cells}
use Rattle.act_text.proofs.row.OtherCells.are.Goals as goal

pub returns : goal.returns
returns c = λ e. same_cells c.args.self.now c.args.others.now (sym c.eq.ensures ∙ e)

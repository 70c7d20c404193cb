use Rattle.std.proofs.Common.{sym, ap, ◌∙◌}
use Rattle.act_model.specs.Chunk.{printed_level}
use Rattle.act_model.proofs.Alike.{cells_alike}
use Rattle.act_model.proofs.shared.are_alike.Goals as goal

pub returns : goal.returns
returns c =
    cells_alike c.args.shared.now c.args.other_shared.now c.args.one.now c.args.other.now c.eq.result c.eq-2.result c.is_printed_as.result c.are_numbers_alike.result c.eq.ensures c.eq-2.ensures
    (λ same. sym (ap printed_level c.level.ensures) ∙ c.is_printed_as.ensures same ∙ ap printed_level c.level-2.ensures) c.are_numbers_alike.ensures

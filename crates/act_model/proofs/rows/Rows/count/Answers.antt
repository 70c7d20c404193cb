use Rattle.std.proofs.Common.{map, ap, length, arith}
use Rattle.std.proofs.lemmas.List.{length-append, length-map}
use Rattle.std.specs.Arc.{arc_value}
use Rattle.act_model.specs.Rows.{rows_of}
use Rattle.act_model.proofs.Chunks.{length_full}
use Rattle.act_model.proofs.rows.Rows.count.Goals as goal

pub overflow_mul-result : goal.overflow_mul-result
overflow_mul-result c =
    omega (arith, c.len.ensures, c.self.inside.full.ok.0, length-map c.self.inside.full.items arc_value, c.self.invariant.few)

pub overflow_add-result : goal.overflow_add-result
overflow_add-result c =
    omega (arith, c.len.ensures, c.self.inside.full.ok.0, length-map c.self.inside.full.items arc_value, c.self.invariant.few, c.count.ensures, c.self.invariant.short)

pub returns : goal.returns
returns c =
    let full = map arc_value c.self.inside.full.items in
    omega (arith, c.len.ensures, c.self.inside.full.ok.0, length-map c.self.inside.full.items arc_value, c.count.ensures, ap length c.self.view_is, length-append (rows_of full) c.self.inside.last, length_full full c.self.invariant.each)

use Rattle.std.proofs.Common.{◌≡◌, List, ◌++◌, ◌∷◌, [], map, ap, ap₂, sym, subst, ◌∙◌}
use Rattle.std.proofs.lemmas.List.{map_push}
use Rattle.std.proofs.lemmas.List.Elements.{All-push}
use Rattle.std.specs.List.{All}
use Rattle.act_model.specs.Chunk.{HasParts, full_row}
use Rattle.act_model.specs.declared.run.Row.{Row}
use Rattle.act_model.proofs.Slims.{have_still, on_err, same_rows}
use Rattle.act_model.proofs.chunk.Chunk.push.Goals as goal

pub returns-in_err-slim-clause-unchanged : goal.returns-in_err-slim-clause-unchanged
returns-in_err-slim-clause-unchanged c =
    let chunk = c.self.inside in
    on_err c.from_residual-in_err-slim.result _
    (ap (map (full_row c.add.new.self)) c.reserve.ensures.items
    ∙ same_rows chunk.shared c.add.new.self c.add.ensures.stays chunk.rows.items c.self.invariant
    ∙ c.self.view_is)

pub invariant_of-self-2 : goal.invariant_of-self-2
invariant_of-self-2 c =
    let chunk = c.self.inside in
    let slims = chunk.rows.items in
    let slim = c.in_ok-slim.slim in
    let items : c.push_reserved.new.self.items ≡ slims ++ slim ∷ [] = c.push_reserved.ensures.items ∙ ap (λ slims. slims ++ slim ∷ []) c.reserve.ensures.items in
    subst (All (HasParts c.add.new.self)) (sym items)
    (All-push (HasParts c.add.new.self) slims slim (have_still chunk.shared c.add.new.self c.add.ensures.stays slims c.self.invariant) c.in_ok-slim.ensures.there)

pub returns-clause-added : goal.returns-clause-added
returns-clause-added c =
    let chunk = c.self.inside in
    let slims = chunk.rows.items in
    let slim = c.in_ok-slim.slim in
    let items : c.push_reserved.new.self.items ≡ slims ++ slim ∷ [] = c.push_reserved.ensures.items ∙ ap (λ slims. slims ++ slim ∷ []) c.reserve.ensures.items in
    ap (map (full_row c.add.new.self)) items
    ∙ map_push (full_row c.add.new.self) slims slim
    ∙ ap₂ (λ (rows : List Row) row. rows ++ row ∷ []) (same_rows chunk.shared c.add.new.self c.add.ensures.stays slims c.self.invariant ∙ c.self.view_is) c.in_ok-slim.ensures.row

use Rattle.std.proofs.Common.{List, [], ◌∷◌, ◌++◌, map, take, get_or, sym, ap, ap₂, ◌∙◌, arith}
use Rattle.std.proofs.lemmas.List.{map_push, take_more}
use Rattle.std.specs.Arc.{arc_value}
use Rattle.act_model.specs.declared.run.Row.{Row}
use Rattle.act_model.proofs.rows.shared.Goals as goal

pub chunks-preserved : goal.chunks-preserved
chunks-preserved c =
    let chunks = c.args.chunks.now in
    let i = c.chunks.chunk-index in
    let item = c.chunk-item.result in
    ap (map arc_value) c.in_ok-push.ensures.items
    ∙ map_push arc_value c.chunks.same.items c.in_ok-try_clone.field-0
    ∙ ap₂ (λ (same : List (List Row)) chunk. same ++ chunk ∷ []) c.chunks.invariant (c.in_ok-try_clone.ensures ∙ ap arc_value c.chunk-item.is)
    ∙ sym (map_push arc_value (take i chunks) (get_or chunks i item))
    ∙ ap (map arc_value) (sym (take_more chunks i item (omega (arith, c.chunks-test.true))))

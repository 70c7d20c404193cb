use Rattle.std.proofs.Common.{◌≡◌, map, take, sym, ap, subst, ◌∙◌}
use Rattle.std.proofs.lemmas.List.{take-map}
use Rattle.std.specs.List.{All}
use Rattle.act_model.specs.Chunk.{HasParts, full_row}
use Rattle.act_model.proofs.Slims.{same_rows}
use Rattle.act_model.proofs.chunk.Chunk.first.Goals as goal

pub returns : goal.returns
returns c =
    let chunk = c.self.inside in
    let shared = c.in_ok-shared.shared in
    let slims = c.in_ok-rows.rows.items in
    let rows : slims ≡ take c.args.count chunk.rows.items = c.in_ok-rows.ensures ∙ ap (take c.args.count) c.deref.ensures.value in
    let there : All (HasParts shared) slims = subst (All (HasParts shared)) c.deref-2.ensures.value c.in_ok-shared.ensures.there in
    sym (same_rows shared chunk.shared c.in_ok-shared.ensures.stays slims there)
    ∙ ap (map (full_row chunk.shared)) rows
    ∙ sym (take-map (full_row chunk.shared) c.args.count chunk.rows.items)
    ∙ ap (take c.args.count) c.self.view_is

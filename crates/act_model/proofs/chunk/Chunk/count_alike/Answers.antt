use Rattle.std.proofs.Common.{◌≡◌, ◌≤◌, List, map, take, sym, ap, ◌∙◌, arith}
use Rattle.std.proofs.lemmas.List.{length-take, take-map, take-take}
use Rattle.act_model.specs.Chunk.{full_row}
use Rattle.act_model.specs.Run.{cells_of}
use Rattle.act_model.specs.declared.run.Row.{Row}
use Rattle.act_model.specs.declared.shared.Slim.{Slim}
use Rattle.act_model.proofs.chunk.Chunk.count_alike.Goals as goal

pub count_alike-requires-clause-before : goal.count_alike-requires-clause-before
count_alike-requires-clause-before c =
    let here = c.self.inside in
    let there = c.other.inside in
    let k = c.args.from in
    let most = c.args.most in
    let slims : take k (take most c.deref.result.now) ≡ take k here.rows.items = take-take k most c.deref.result.now c.requires.from ∙ ap (take k) c.deref.ensures.value in
    let slims' : take k (take most c.deref-2.result.now) ≡ take k there.rows.items = take-take k most c.deref-2.result.now c.requires.from ∙ ap (take k) c.deref-2.ensures.value in
    ap (λ (slims : List Slim). map cells_of (map (full_row here.shared) slims)) slims
    ∙ ap (map cells_of) (sym (take-map (full_row here.shared) k here.rows.items))
    ∙ ap (λ (rows : List Row). map cells_of (take k rows)) c.self.view_is
    ∙ c.requires.before
    ∙ ap (λ (rows : List Row). map cells_of (take k rows)) (sym c.other.view_is)
    ∙ ap (map cells_of) (take-map (full_row there.shared) k there.rows.items)
    ∙ ap (λ (slims : List Slim). map cells_of (map (full_row there.shared) slims)) (sym slims')

pub returns-clause-alike : goal.returns-clause-alike
returns-clause-alike c =
    let here = c.self.inside in
    let there = c.other.inside in
    let k = c.count_alike.result in
    let most = c.args.most in
    let within : k ≤ most = omega (arith, c.count_alike.ensures.most, length-take most c.deref.result.now) in
    let slims : take k (take most c.deref.result.now) ≡ take k here.rows.items = take-take k most c.deref.result.now within ∙ ap (take k) c.deref.ensures.value in
    let slims' : take k (take most c.deref-2.result.now) ≡ take k there.rows.items = take-take k most c.deref-2.result.now within ∙ ap (take k) c.deref-2.ensures.value in
    ap (λ (rows : List Row). map cells_of (take k rows)) (sym c.self.view_is)
    ∙ ap (map cells_of) (take-map (full_row here.shared) k here.rows.items)
    ∙ ap (λ (slims : List Slim). map cells_of (map (full_row here.shared) slims)) (sym slims)
    ∙ c.count_alike.ensures.alike
    ∙ ap (λ (slims : List Slim). map cells_of (map (full_row there.shared) slims)) slims'
    ∙ ap (map cells_of) (sym (take-map (full_row there.shared) k there.rows.items))
    ∙ ap (λ (rows : List Row). map cells_of (take k rows)) c.other.view_is

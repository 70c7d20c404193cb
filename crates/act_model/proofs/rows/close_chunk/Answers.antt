use Rattle.std.proofs.Common.{◌≡◌, ◌++◌, ◌∷◌, [], List, length, map, sym, ap, subst, ◌∙◌, rules, arith}
use Rattle.std.specs.Arc.{arc_value}
use Rattle.std.specs.List.{All}
use Rattle.std.proofs.lemmas.List.{length-append, length-map, map_push}
use Rattle.std.proofs.lemmas.List.Elements.{All-push}
use Rattle.act_model.specs.declared.run.Row.{Row}
use Rattle.act_model.proofs.rows.close_chunk.Goals as goal

pub returns-in-Ok-push-clause-chunks : goal.returns-in-Ok-push-clause-chunks
returns-in-Ok-push-clause-chunks c =
    let full = c.args.full.now.items in
    let before = map arc_value full in
    let last = c.args.last.now in
    let chunks : map arc_value c.push.new.self.items ≡ before ++ last ∷ [] =
    ap (map arc_value) (c.in-Ok-push.ensures.items ∙ ap (λ chunks. chunks ++ c.in-Ok.chunk ∷ []) c.reserve.ensures.items)
    ∙ map_push arc_value full c.in-Ok.chunk
    ∙ ap (λ chunk. before ++ chunk ∷ []) (c.in-Ok.ensures.ok ∙ c.replace.ensures.value) in
    let none : c.replace.new.dest ≡ [] = search rules in
    record {
      each = subst (All (λ (chunk : List Row). length chunk ≡ 64)) (sym chunks)
          (All-push (λ (chunk : List Row). length chunk ≡ 64) before last c.requires.chunks.each c.requires.long);
      few = omega (arith, ap length chunks, length-append before (last ∷ []), length-map full arc_value, c.len.ensures, c.if-len-ge-MOST_CHUNKS.false);
      short = omega (arith, ap length none);
    }

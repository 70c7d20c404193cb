use Rattle.std.proofs.Common.{◌≡◌, ◌∙◌, ap, subst, sym, arith, List, [], ◌∷◌, ◌++◌, Option, Some}
use Rattle.atomic_table.specs.Table.{opening}
use Rattle.act_turn.specs.Turn.{Holds, opener}
use Rattle.act_turn.proofs.Steps.{starting}
use Rattle.act_turn.proofs.turn.Turn.open.Goals as goal

pub new-requires : goal.new-requires
new-requires g c = let value = c.args.value in let journal = g.K.Kept.journal in let few = c.ranges.seats.fits in
    let items : c.push_reserved.new.self.items ≡ Some value ∷ [] = c.push_reserved.ensures.items ∙ ap (λ (l : List (Option g.row.K.Denot)). l ++ Some value ∷ []) c.in-Ok-with_capacity.ensures.items in
    subst (λ (z : List (Option g.row.K.Denot) × g.row.K.Denot). Holds journal g.K.Kept.author c.args.seats (opening (0 ∷ 0 ∷ []) z.0 (opener (journal z.1))))
    (λ i. (sym items i, sym c.of.ensures i)) (starting journal g.K.Kept.author c.args.seats value (omega arith) (omega arith))

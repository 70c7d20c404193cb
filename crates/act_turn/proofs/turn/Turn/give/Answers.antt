use Rattle.std.proofs.Common.{rules, sym, ap, ◌∙◌, ◌∷◌, subst, ℕ, List, Some}
use Rattle.atomic_table.specs.Table.{rest}
use Rattle.act_turn.specs.Journal.{GoesOn}
use Rattle.act_turn.proofs.Passes.{full_hand, number_is, seen_is}
use Rattle.act_turn.proofs.Steps.{passing_on}
use Rattle.act_turn.proofs.turn.Turn.give.Goals as goal

pub fetch_add-served-requires : goal.fetch_add-served-requires
fetch_add-served-requires g c = let has = full_hand _ _ (ap (λ s. s.holds) c.pass.view_is ∙ c.requires.taken) c.pass.invariant.hand in let now = c.exchange-empty.ensures.3 in let one = c.pass.invariant.one in
    let v = c.pass.inside.seat in let is = c.pass.view_is in let value = c.held.inside.value in
    let on : GoesOn g.K.Kept.author c.args.pass.now.number c.args.pass.now.seen (g.K.Kept.journal value) =
    subst (λ (k : g.row.K.Denot). GoesOn g.K.Kept.author c.args.pass.now.number c.args.pass.now.seen (g.K.Kept.journal k)) (sym c.held.view_is) c.requires.goes_on in (
      search rules,
      search rules,
      passing_on g.K.Kept.journal g.K.Kept.author _ _ _ has.0.0 one.0 one.1 _ value (ap (λ m. m.0.stage) now ∙ has.0.1) (ap (λ m. m.0.members) now ∙ one.2) (ap (λ m. m.1) now ∙ ap (λ l. (0, Some value) ∷ rest l) has.1)
          (subst (λ (z : ℕ × List g.row.K-Entry.Denot). GoesOn g.K.Kept.author z.0 z.1 (g.K.Kept.journal value)) (λ i. (number_is v.table_id v.me.0 c.args.pass.now is one i, seen_is v.table_id v.me.0 c.args.pass.now is one i)) on),
    )

use Rattle.std.proofs.Common.{rules, sym, ap, ◌∙◌, ◌∷◌, Some, None}
use Rattle.atomic_table.specs.Table.{rest}
use Rattle.act_turn.proofs.Passes.{free_hand, taken_pass}
use Rattle.act_turn.proofs.Steps.{drawing}
use Rattle.act_turn.proofs.turn.Turn.take.Goals as goal

pub fetch_add-ticket-requires : goal.fetch_add-ticket-requires
fetch_add-ticket-requires g c = let has = free_hand _ _ (ap (λ s. s.holds) c.pass.view_is ∙ c.requires.free) c.pass.invariant.hand in
    (search rules, search rules, drawing g.K.Kept.journal g.K.Kept.author _ _ _ _ has.0)

pub exchange-requires : goal.exchange-requires
exchange-requires g c = let came = c.wait.ensures.come in let now = ap (λ m. m.1) came.2.1 in (search rules, (Some came.2.0, now ∙ ap (λ l. (0, Some came.2.0) ∷ rest l) (sym now)))

pub invariant_of-pass : goal.invariant_of-pass
invariant_of-pass g c = let has = free_hand _ _ (ap (λ s. s.holds) c.pass.view_is ∙ c.requires.free) c.pass.invariant.hand in
    let came = c.wait.ensures.come in let now = c.exchange.ensures.3 in let drew = c.fetch_add-ticket.ensures.2 in
    taken_pass c.exchange.new.seat.me came.0 (_, _, ap (λ m. m.0.members) now ∙ ap (λ m. m.0.members) came.2.1) (ap (λ m. m.0.stage) now ∙ ap (λ m. m.0.stage) came.2.1)
    (ap (λ m. m.1) now ∙ (ap (λ m. (0, None) ∷ rest m.1) came.2.1 ∙ (ap (λ m. (0, None) ∷ m.1) drew.2 ∙ ap (λ l. (0, None) ∷ l) has.1)))

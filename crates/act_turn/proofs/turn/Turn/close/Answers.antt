use Rattle.std.proofs.Common.{ap, sym, ◌∙◌, refl, subst}
use Rattle.std.specs.Option.{IsSome}
use Rattle.act_turn.proofs.Passes.{last_value, is_last}
use Rattle.act_turn.proofs.turn.Turn.close.Goals as goal

pub unwrap-value-requires : goal.unwrap-value-requires
unwrap-value-requires g c = let seat = c.gather-seat.result in let is = c.gather-seat.ensures in let journal = g.K.Kept.journal in let author = g.K.Kept.author in
    let last = last_value journal author c.self.inside.table.shared.key.seats c.args.passes.items seat.id seat.me.0 _ _ _ is.seat.1 is.members
    (sym c.args.passes.ok.0 ∙ (c.requires.all ∙ sym (ap (λ t. t.seats) c.self.view_is))) c.close_with-closed.ensures.values.2 c.take.ensures.value in
    subst IsSome (sym last.1) refl

pub returns : goal.returns
returns g c = let seat = c.gather-seat.result in let is = c.gather-seat.ensures in let journal = g.K.Kept.journal in let author = g.K.Kept.author in
    let last = last_value journal author c.self.inside.table.shared.key.seats c.args.passes.items seat.id seat.me.0 _ _ _ is.seat.1 is.members
    (sym c.args.passes.ok.0 ∙ (c.requires.all ∙ sym (ap (λ t. t.seats) c.self.view_is))) c.close_with-closed.ensures.values.2 c.take.ensures.value in
    let t = is_last journal author _ _ _ last c.unwrap-value.ensures in record { begins = t.begins; longest = t.longest; own = t.own }

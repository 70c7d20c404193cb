use Rattle.std.proofs.Common.{List, drop, length, slice_get, ap, sym, ◌∙◌, arith}
use Rattle.std.proofs.lemmas.List.{take_at}
use Rattle.act_session.specs.declared.actor.Actor.{Actor}
use Rattle.act_session.proofs.threads.session.Goals as goal

pub end-requires-clause-played : goal.end-requires-clause-played
end-requires-clause-played g c κs within = λ place actor at.
    let a = c.play_all.auto.actors in let b = c.as_mut_slice.ensures.len in
    c.play_all.ensures place actor (sym (ap (λ (actors : List (Actor g.row.A.Denot)). slice_get actors place) (take_at c.play_all.new.actors (drop (length c.play_all.new.actors) c.seat.new.actors.items) c.seat.new.actors.len (omega (arith, a, b)))) ∙ at)

use Rattle.std.proofs.Common.{rules, ap, ◌∙◌}
use Rattle.act_turn.proofs.Steps.{looking}
use Rattle.act_turn.proofs.turn.Turn.wait.Goals as goal

pub load-serving-requires : goal.load-serving-requires
load-serving-requires g c = let w = c.requires.waits in let one = c.requires.one in let same = c.loop.invariant.2 in
    (search rules, search rules, looking g.K.Kept.journal g.K.Kept.author _ _ _ w.0 one.0 one.1 _ (ap (λ m. m.0.stage) same ∙ w.1) (ap (λ m. m.0.members) same ∙ one.2))

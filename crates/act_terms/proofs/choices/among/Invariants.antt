use Rattle.std.proofs.Common.{◌≡◌, map, drop}
use Rattle.act_terms.specs.Choices.{among}
use Rattle.act_terms.proofs.choices.among.Given as goal

-- none of the choices so far has the text
abbrev pub invariant-loop-choice : goal.invariant-loop-choice
invariant-loop-choice g l = among (map (λ c. (c.0.now, c.1)) (drop l.choice-index l.choices)) l.text ≡ among (map (λ c. (c.0.now, c.1)) l.choices) l.text

use Rattle.std.proofs.Common.{◌≡◌, ◌++◌, ℕ, List, drop, map, Bor}
use Rattle.act_text.specs.Lines.{line_of, rest_of_line}
use Rattle.act_engine.proofs.line.push_line.Given as goal

-- what is left of the line is still to be added
abbrev pub invariant-loop-other : goal.invariant-loop-other
invariant-loop-other l =
    l.out.items ++ rest_of_line (map (λ (w : Bor (List ℕ)). w.now) (drop l.other-index l.others)) ≡ l.fn.out.items ++ line_of l.word (map (λ (w : Bor (List ℕ)). w.now) l.others)

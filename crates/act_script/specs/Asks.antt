-- The contracts that asks name. This profile's own.
use Rattle.std.specs.Prelude.{◌≡◌, ℕ, nat_lt, Bool, true, List, map, Vec}
use Rattle.std.specs.List.{All}
use Rattle.std.specs.declared.alloc.Global.{Global}
use Rattle.act_model.specs.declared.journal.Asked.TheVariants.{One}
use Rattle.act_model.specs.declared.journal.Line.{Line}
use Rattle.act_model.specs.declared.journal.Step.{Step}
use Rattle.act_model.specs.declared.journal.Step.TheVariants.{Ask}

-- the lines of each script
abbrev pub line_lists : List (Vec Line Global) → List (List Line)
line_lists scripts = map (λ script. script.items) scripts

-- a step asks for no contract but the first so many
abbrev pub is_below : ℕ → Step → Bool
is_below count (Ask (One contract)) = nat_lt contract count
is_below count other = true

-- the steps of a script do
abbrev pub AsksBelow : ℕ → List Line → Type 0
AsksBelow count lines = All (λ line. is_below count line.step ≡ true) lines

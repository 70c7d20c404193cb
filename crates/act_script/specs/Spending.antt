-- What asks weigh, one after the other, as clauses of private functions say it. This profile's own.
use Rattle.std.specs.Prelude.{ℕ, ◌+◌, nat_lt, if◌then◌else◌, List, [], ◌∷◌, Option, Some, None}
use Rattle.act_script.specs.Weight.{WeighedAsk}

-- the script and the line of the first ask past the limit, where those before these asks weigh so much
abbrev pub overweight_behind : ℕ → List WeighedAsk → Option (ℕ × ℕ)
overweight_behind before [] = None
overweight_behind before (ask ∷ asks) =
    if nat_lt 4_194_304 (before + ask.weight) then Some (ask.script, ask.line) else overweight_behind (before + ask.weight) asks

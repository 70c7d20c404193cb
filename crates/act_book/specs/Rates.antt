-- The latest rate of a code among some entries. This profile's own.
use Rattle.std.specs.Prelude.{ℕ, ℤ, List, map, Option, option_map, option_and_then}
use Rattle.std.specs.Int.{int_max}
use Rattle.std.specs.List.{reduce}
use Rattle.act_model.specs.declared.observed.Obs.{Obs}
use Rattle.act_model.specs.Observed.{last_of_day, rates_until}

-- the greatest day not after t on which the code has a rate, and the value of the last rate of that day
unfoldable pub latest_rate : List Obs → ℕ → ℤ → Option (ℤ × ℤ)
latest_rate entries code t =
    let rates = rates_until entries code t in
    option_and_then (λ day. option_map (λ value. (day, value)) (last_of_day rates day)) (reduce int_max (map (λ rate. rate.0) rates))

-- What the asks of scripts weigh. This profile's own.
use Rattle.std.specs.Prelude.{ℕ, List, length, map, Bool, false, true, Option}
use Rattle.std.specs.List.{count_by, range_with_len, sum, sum_by}
use Rattle.act_cones.specs.Counts.{cone_sum}
use Rattle.act_model.specs.declared.journal.Line.{Line}
use Rattle.act_model.specs.declared.journal.Step.TheVariants.{Append, Ask}
use Rattle.act_model.specs.declared.observed.Obs.TheVariants.{Event, Rate}
use Rattle.act_portfolio.specs.Reading.{Accepted}
use Rattle.act_script.specs.Weight.{Tariff, all_asks, overweight}

-- the named contracts of a portfolio by their numbers
abbrev pub numbers_of : Accepted → List ℕ
numbers_of portfolio = range_with_len 0 (length portfolio.names.contracts)

-- an event entry
abbrev pub is_event : Line → Bool
is_event line = elim line.step [
  | Append entry ↦ elim entry [
    | Rate code day value ↦ false
    | Event contract kind day value ↦ true
  ]
  | Ask asked ↦ false
]

-- by what the asks of scripts weigh
abbrev pub tariff_of : Accepted → List (List Line) → Tariff
tariff_of portfolio scripts =
    record {
      weights = map (cone_sum portfolio.contracts) (numbers_of portfolio);
      all_weight = sum (map (cone_sum portfolio.contracts) (numbers_of portfolio));
      all_contracts = length portfolio.names.contracts;
      events = sum_by (count_by is_event) scripts;
    }

-- the first ask past the limit: its script and its line
abbrev pub too_much_asked : Accepted → List (List Line) → Option (ℕ × ℕ)
too_much_asked portfolio scripts = overweight (all_asks (tariff_of portfolio scripts) scripts)

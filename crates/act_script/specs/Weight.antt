-- What asks weigh. This profile's own.
use Rattle.std.specs.Prelude.{ℕ, ◌+◌, ◌*◌, nat_lt, List, find, length, slice_get, slice_index, take, Option, Some, None, option_and_then, option_map}
use Rattle.std.specs.List.{enumerate_from, filter_map, flat_map, range_with_len, sum_by}
use Rattle.act_model.specs.declared.journal.Asked.{Asked}
use Rattle.act_model.specs.declared.journal.Asked.TheVariants.{All, One}
use Rattle.act_model.specs.declared.journal.Line.{Line}
use Rattle.act_model.specs.declared.journal.Step.{Step}
use Rattle.act_model.specs.declared.journal.Step.TheVariants.{Append, Ask}

-- what the weights of asks go by: the cone sums by contract, their sum over the named contracts, how many these are,
-- and the number of event entries in all scripts
pub record Tariff : Type 0 where
  pub weights : List ℕ
  pub all_weight : ℕ
  pub all_contracts : ℕ
  pub events : ℕ

-- the weight of an ask: 1 and, for each contract asked, its cone sum and twice the number of events
unfoldable pub ask_weight : Tariff → Asked → ℕ
ask_weight tariff All = 1 + (tariff.all_weight + tariff.all_contracts * (2 * tariff.events))
ask_weight tariff (One contract) = 1 + (slice_index tariff.weights contract + 2 * tariff.events)

-- an ask: the number of its script, its line, and its weight
pub record WeighedAsk : Type 0 where
  pub script : ℕ
  pub line : ℕ
  pub weight : ℕ

-- the ask of a line, where it is one
abbrev pub weighed : Tariff → ℕ → ℕ → Step → Option WeighedAsk
weighed tariff script line (Append entry) = None
weighed tariff script line (Ask asked) = Some (record { script = script; line = line; weight = ask_weight tariff asked })

-- the asks of the script of that number
abbrev pub script_asks : Tariff → ℕ → List Line → List WeighedAsk
script_asks tariff script lines = filter_map (λ line. weighed tariff script line.line line.step) lines

-- the asks of all scripts, script after script
abbrev pub all_asks : Tariff → List (List Line) → List WeighedAsk
all_asks tariff scripts = flat_map (λ script. script_asks tariff script.0 script.1) (enumerate_from 1 scripts)

-- what asks weigh together
abbrev pub total_weight : List WeighedAsk → ℕ
total_weight asks = sum_by (λ ask. ask.weight) asks

-- the place of the first ask such that it and those before it weigh more than 4,194,304, where there is one
abbrev pub overweight_place : List WeighedAsk → Option ℕ
overweight_place asks = find (λ place. nat_lt 4_194_304 (total_weight (take (place + 1) asks))) (range_with_len 0 (length asks))

-- its script and its line
abbrev pub overweight : List WeighedAsk → Option (ℕ × ℕ)
overweight asks = option_map (λ (ask : WeighedAsk). (ask.script, ask.line)) (option_and_then (slice_get asks) (overweight_place asks))

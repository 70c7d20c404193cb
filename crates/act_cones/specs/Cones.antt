-- What is kept of each contract of a portfolio, and how it is found.
use Rattle.std.specs.Prelude.{◌≡◌, ℕ, ◌*◌, ◌+◌, ◌<◌, ◌≤◌, Bool, true, false, List, get_or, length, map, slice_get, slice_index, Some}
use Rattle.std.specs.List.{All, Contains, filter_map, flat_map, range_with_len}
use Rattle.act_model.specs.Limits.{most_contracts, most_dates}
use Rattle.act_model.specs.Reads.{Readings}
use Rattle.act_profile.specs.Contract.{observed_as}
use Rattle.act_profile.specs.Reads.{ascending, codes_of, codes_read, contracts_read}
use Rattle.act_profile.specs.Run.{Contracts}
use Rattle.act_cones.specs.Counts.{cone_sum, scheduled_count}

-- the most scheduled events that a contract counts: its own, and those of two others
abbrev pub most_counted : ℕ
most_counted = 3 * most_dates

-- the most that a contract weighs: so many events and one, for each contract that there may be
abbrev pub most_weight : ℕ
most_weight = most_contracts * (most_counted + 1)

-- the numbers of contracts
abbrev pub numbers_of : Contracts → List ℕ
numbers_of contracts = range_with_len 0 (length contracts.children)

-- what the evaluation of a contract reads
abbrev pub reads_of : Contracts → ℕ → Readings
reads_of contracts c = record { codes = codes_read contracts c; contracts = contracts_read contracts c }

-- what some contracts read
abbrev pub reads_over : Contracts → List ℕ → Readings
reads_over contracts cone = record {
  codes = ascending (flat_map codes_of (filter_map (slice_get contracts.terms) cone));
  contracts = ascending (map (λ terms. observed_as terms.common) (filter_map (slice_get contracts.terms) cone));
}

-- for each contract the events that it counts, what it weighs and what it reads
pub record AreCones (contracts : Contracts) (counted weighed : List ℕ) (readings : List Readings) : Type 0 where
  pub counts : counted ≡ map (scheduled_count contracts) (numbers_of contracts)
  pub weights : weighed ≡ map (cone_sum contracts) (numbers_of contracts)
  pub reads : readings ≡ map (reads_of contracts) (numbers_of contracts)
  pub few : All (λ count. count ≤ most_counted) counted
  pub light : All (λ weight. weight ≤ most_weight) weighed

-- for each of so many contracts its place in the order
pub record AreRanks (contracts : ℕ) (order ranks : List ℕ) : Type 0 where
  pub count : length ranks ≡ contracts
  pub each : (c : ℕ) → c < contracts → slice_get order (slice_index ranks c) ≡ Some c

-- those that are marked are in the list
abbrev pub AreSeen : List Bool → List ℕ → Type 0
AreSeen seen numbers = (c : ℕ) → get_or seen c false ≡ true → Contains numbers c

-- the same numbers are in both lists
pub record HaveSame (xs ys : List ℕ) : Type 0 where
  pub to : (c : ℕ) → Contains xs c → Contains ys c
  pub from : (c : ℕ) → Contains ys c → Contains xs c

-- The totals of answers: how many rows they have, and what these pay. This profile's own.
use Rattle.std.specs.Prelude.{◌≡◌, ℕ, ◌+◌, ◌%◌, ◌^◌, ℤ, pos, ◌+ℤ◌, List, [], ◌∷◌, ◌++◌, codes, length, unsigned_abs}
use Rattle.std.specs.Int.{int_rem_euclid}
use Rattle.std.specs.List.{flat_map, sum_by}
use Rattle.act_engine.specs.Writing.{number_line}
use Rattle.act_model.specs.Answer.{Reply}
use Rattle.act_model.specs.Run.{Stream}
use Rattle.act_model.specs.declared.run.Row.{Row}
use Rattle.act_top.specs.declared.totals.Totals.{Totals}

-- the rows of runs, contract after contract
abbrev pub rows_of_runs : List (ℕ × Stream) → List Row
rows_of_runs runs = flat_map (λ (run : ℕ × Stream). run.1.rows) runs

-- the rows of answers
abbrev pub rows_of_answers : List Reply → List Row
rows_of_answers answers = flat_map (λ (answer : Reply). rows_of_runs answer.runs) answers

-- the sum of the payoffs of rows, in units
abbrev pub payoff_units : List Row → ℤ
payoff_units [] = pos 0
payoff_units (row ∷ rows) = row.payoff +ℤ payoff_units rows

-- a whole number modulo 2^64: what is left of it, from 0 on
unfoldable pub modulo_2_64 : ℤ → ℕ
modulo_2_64 z = unsigned_abs (int_rem_euclid z (pos (2 ^ 64)))

-- the totals of rows
abbrev pub totals_of : List Row → Totals
totals_of rows = record { rows = length rows; sum = modulo_2_64 (payoff_units rows) }

-- and of the rows of an answer
abbrev pub answer_totals : Reply → Totals
answer_totals answer = totals_of (rows_of_runs answer.runs)

-- how many rows are in totals
abbrev pub rows_in : List Totals → ℕ
rows_in totals = sum_by (λ (t : Totals). t.rows) totals

-- what their sums come to
abbrev pub sums_in : List Totals → ℕ
sums_in totals = sum_by (λ (t : Totals). t.sum) totals

-- totals together
abbrev pub all_totals : List Totals → Totals
all_totals totals = record { rows = rows_in totals; sum = sums_in totals % 2 ^ 64 }

-- totals were added
pub record Adds (before after : Totals) (others : List Totals) : Type 0 where
  pub rows : after.rows ≡ before.rows + rows_in others
  pub sum : after.sum ≡ (before.sum + sums_in others) % 2 ^ 64

-- rows were counted: as many more, and their payoffs' units more
pub record Counts (before after : Totals) (rows : List Row) : Type 0 where
  pub count : after.rows ≡ before.rows + length rows
  pub sum : after.sum ≡ (before.sum + modulo_2_64 (payoff_units rows)) % 2 ^ 64

-- the number of a large run, how many contracts have a name, how many answers there are, how many rows these have, and what the rows pay
abbrev pub totals_lines : ℕ → ℕ → ℕ → Totals → List ℕ
totals_lines size contracts answers totals =
    number_line (codes "big") size
    ++ number_line (codes "contracts") contracts
    ++ number_line (codes "asks") answers
    ++ number_line (codes "rows") totals.rows
    ++ number_line (codes "sum") totals.sum

-- the same of answers
abbrev pub totals_text : ℕ → ℕ → List Reply → List ℕ
totals_text size contracts answers = totals_lines size contracts (length answers) (totals_of (rows_of_answers answers))

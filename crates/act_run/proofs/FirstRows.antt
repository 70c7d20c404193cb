-- The rows of a run that are dated before a day: its first ones, where they stand by their days.
use Rattle.std.proofs.Common.{◌≡◌, ℕ, zero, suc, ◌+◌, ◌<◌, ◌≤◌, true, false, ℤ, int_lt, ◌≤ℤ◌, List, [], ◌∷◌, ◌++◌, length, take, drop, slice_get, Some, inl, inr, refl, sym, ap, ◌∙◌, append-nil, arith}
use Rattle.std.specs.List.{All, AllPairs, filter}
use Rattle.std.proofs.Math.Seq.{drop-length}
use Rattle.std.proofs.lemmas.Bool.{cases_Bool}
use Rattle.std.proofs.lemmas.Int.{ints}
use Rattle.std.proofs.lemmas.List.{take-append-drop}
use Rattle.std.proofs.lemmas.List.Elements.{filter-append}
use Rattle.act_model.specs.declared.run.Row.{Row}
use Rattle.act_profile.specs.DayOrder.{AreInDayOrder}
use Rattle.act_run.proofs.DayOrder.{RowsAscend, RowsFrom}

-- ---- rows by their days, one by one

from_all : (day : ℤ) (rows : List Row) → All (λ (row : Row). day ≤ℤ row.day) rows → RowsFrom day rows
from_all day [] all = tt
from_all day (row ∷ rows) all = (all zero row (omega arith), from_all day rows (λ k d within. all (suc k) d (omega (arith, within))))

ascend_of : (rows : List Row) → AllPairs (λ (earlier later : Row). earlier.day ≤ℤ later.day) rows → RowsAscend rows
ascend_of [] pairs = tt
ascend_of (row ∷ rows) pairs =
    (from_all row.day rows (λ k d within. pairs zero (suc k) d (omega arith) (omega (arith, within))), ascend_of rows (λ i j d less within. pairs (suc i) (suc j) d (omega (arith, less)) (omega (arith, within))))

pub rows_ascend : (rows : List Row) → AreInDayOrder rows → RowsAscend rows
rows_ascend rows order = ascend_of rows order.ascending

-- ---- rows dated before a day

module _ (day : ℤ) where
  -- those of them
  abbrev pub early : List Row → List Row
  early rows = filter (λ (row : Row). int_lt row.day day) rows

  early-first : (row : Row) (rows : List Row) → int_lt row.day day ≡ true → early (row ∷ rows) ≡ row ∷ early rows
  early-first row rows is = rw is refl

  late-first : (row : Row) (rows : List Row) → int_lt row.day day ≡ false → early (row ∷ rows) ≡ early rows
  late-first row rows is = rw is refl

  late-next : (first row : Row) → int_lt first.day day ≡ false → first.day ≤ℤ row.day → int_lt row.day day ≡ false
  late-next first row is le = grind (arith, ints)

  early-before : (first row : Row) → int_lt row.day day ≡ true → first.day ≤ℤ row.day → int_lt first.day day ≡ true
  early-before first row is le = grind (arith, ints)

  none_behind : (first : Row) (rows : List Row) → int_lt first.day day ≡ false → RowsFrom first.day rows → early rows ≡ []
  none_behind first [] late from = refl
  none_behind first (row ∷ rows) late from = late-first row rows (late-next first row late from.0) ∙ none_behind first rows late from.1

  stand_first : (rows : List Row) → RowsAscend rows → take (length (early rows)) rows ≡ early rows
  stand_first [] up = refl
  stand_first (row ∷ rows) up =
      elim (cases_Bool (int_lt row.day day)) [
        | inl is ↦ rw (early-first row rows is) (ap (λ (more : List Row). row ∷ more) (stand_first rows up.1))
        | inr late ↦
            let none : early (row ∷ rows) ≡ [] = late-first row rows late ∙ none_behind row rows late up.0 in
            rw none refl
      ]

  -- they are the first of rows that stand by their days
  pub early_first : (rows : List Row) → AreInDayOrder rows → take (length (early rows)) rows ≡ early rows
  early_first rows order = stand_first rows (rows_ascend rows order)

  -- ---- found by halves

  -- the first rows, so many, are dated before the day
  pub record AllBefore (rows : List Row) (k : ℕ) : Type 0 where
    pub early : early (take k rows) ≡ take k rows

  -- none of the rows behind the first k is dated before the day
  pub record NoneBehind (rows : List Row) (k : ℕ) : Type 0 where
    pub within : k ≤ length rows
    pub late : early (drop k rows) ≡ []

  early-at : (row : Row) (rows : List Row) (k : ℕ) (at : Row) → slice_get (row ∷ rows) k ≡ Some at → RowsAscend (row ∷ rows) → row.day ≤ℤ at.day
  early-at row rows zero at here up = grind (arith, ints)
  early-at row [] (suc k) at here up = absurd (cc)
  early-at row (r ∷ rows) (suc k) at here up =
      let next = early-at r rows k at here up.1 in
      let first = up.0.0 in
      grind (arith, ints)

  all_early : (rows : List Row) (k : ℕ) (at : Row) → slice_get rows k ≡ Some at → int_lt at.day day ≡ true → RowsAscend rows → early (take (suc k) rows) ≡ take (suc k) rows
  all_early [] k at here is up = refl
  all_early (row ∷ rows) zero at here is up = early-first row [] (early-before row at is (early-at row rows zero at here up))
  all_early (row ∷ rows) (suc k) at here is up =
      early-first row (take (suc k) rows) (early-before row at is (early-at row rows (suc k) at here up))
      ∙ ap (λ more. row ∷ more) (all_early rows k at here is up.1)

  -- with one that is dated before the day, those up to it are
  pub all_before : (rows : List Row) (k count : ℕ) (at : Row) → AreInDayOrder rows → count ≡ k + 1 → slice_get rows k ≡ Some at → int_lt at.day day ≡ true → AllBefore rows count
  all_before rows k count at order is here before =
      let next : count ≡ suc k = omega (arith, is) in
      record { early = rw next (all_early rows k at here before (rows_ascend rows order)) }

  early-late : (row at : Row) → slice_get (row ∷ []) 0 ≡ Some at → int_lt at.day day ≡ false → int_lt row.day day ≡ false
  early-late row at here late = grind (arith, ints)

  all_late : (rows : List Row) (k : ℕ) (at : Row) → slice_get rows k ≡ Some at → int_lt at.day day ≡ false → RowsAscend rows → early (drop k rows) ≡ []
  all_late [] zero at here late up = refl
  all_late [] (suc k) at here late up = refl
  all_late (row ∷ rows) zero at here late up =
      let first : int_lt row.day day ≡ false = early-late row at here late in
      late-first row rows first ∙ none_behind row rows first up.0
  all_late (row ∷ rows) (suc k) at here late up = all_late rows k at here late up.1

  -- with one that isn't, none from it on is
  pub none_from : (rows : List Row) (k : ℕ) (at : Row) → AreInDayOrder rows → k < length rows → slice_get rows k ≡ Some at → int_lt at.day day ≡ false → NoneBehind rows k
  none_from rows k at order within here late = record { within = omega (arith, within); late = all_late rows k at here late (rows_ascend rows order) }

  pub none_before_first : (rows : List Row) → AllBefore rows 0
  none_before_first rows = record { early = refl }

  pub none_behind_last : (rows : List Row) (count : ℕ) → count ≡ length rows → NoneBehind rows count
  none_behind_last rows count is = record { within = omega (arith, is); late = ap (λ n. early (drop n rows)) is ∙ ap early (drop-length rows) }

  -- where the two meet, the first rows are those that are dated before the day
  pub early_are : (rows : List Row) (from to : ℕ) → AllBefore rows from → NoneBehind rows to → from ≡ to → early rows ≡ take from rows
  early_are rows from to first none is =
      let late : early (drop from rows) ≡ [] = ap (λ n. early (drop n rows)) is ∙ none.late in
      ap early (sym (take-append-drop from rows)) ∙ filter-append (λ (row : Row). int_lt row.day day) (take from rows) (drop from rows)
      ∙ ap (λ more. early (take from rows) ++ more) late ∙ append-nil (early (take from rows)) ∙ first.early

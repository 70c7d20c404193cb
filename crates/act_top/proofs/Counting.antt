-- Rows and totals that are counted one after the other.
use Rattle.std.proofs.Common.{◌≡◌, ℕ, suc, ◌+◌, ◌-◌, ◌%◌, ◌^◌, ◌<◌, ℤ, pos, negsuc, ◌+ℤ◌, inl, inr, ltb, List, [], ◌∷◌, ◌++◌, length, refl, sym, ap, ◌∙◌, arith, length-append}
use Rattle.std.specs.Prelude.{map}
use Rattle.std.proofs.Math.IntN.{+ℤ_assoc, +ℤ_idl, sub_ℕ}
use Rattle.std.proofs.lemmas.Bool.{cases_Bool, ltb-false, ltb-true}
use Rattle.std.proofs.lemmas.List.Sums.{sum_by-append, sum_by-cons}
use Rattle.act_model.specs.Answer.{Reply}
use Rattle.act_model.specs.declared.run.Row.{Row}
use Rattle.act_top.specs.Totals.{Adds, Counts, all_totals, answer_totals, modulo_2_64, payoff_units, rows_in, rows_of_answers, rows_of_runs, sums_in, totals_of}
use Rattle.act_top.specs.declared.totals.Totals.{Totals}

-- ---- what is left of a whole number

-- what is left of a difference
modulo-apart : (a b : ℕ) → modulo_2_64 (sub_ℕ a b) ≡ (a % 2 ^ 64 + (2 ^ 64 - b % 2 ^ 64)) % 2 ^ 64
unfolding modulo_2_64
modulo-apart a b = elim (cases_Bool (ltb a b)) [
  | inl less ↦ let below = ltb-true a b less in rw less (omega (arith, below))
  | inr more ↦ let above = ltb-false a b more in rw more (omega (arith, above))
]

-- what is left of a sum
pub modulo-both : (a b : ℤ) → modulo_2_64 (a +ℤ b) ≡ (modulo_2_64 a + modulo_2_64 b) % 2 ^ 64
unfolding modulo_2_64
modulo-both (pos a) (pos b) = omega arith
modulo-both (pos a) (negsuc b) = omega (arith, modulo-apart a (suc b))
modulo-both (negsuc a) (pos b) = omega (arith, modulo-apart b (suc a))
modulo-both (negsuc a) (negsuc b) = omega arith

modulo-small : (z : ℤ) → modulo_2_64 z < 2 ^ 64
unfolding modulo_2_64
modulo-small (pos a) = omega arith
modulo-small (negsuc a) = omega arith

pub modulo-none : modulo_2_64 (pos 0) ≡ 0
unfolding modulo_2_64
modulo-none = refl

-- what rows pay, and then others
pub units-both : (xs ys : List Row) → payoff_units (xs ++ ys) ≡ payoff_units xs +ℤ payoff_units ys
units-both [] ys = sym (+ℤ_idl (payoff_units ys))
units-both (x ∷ xs) ys = ap (λ (z : ℤ). x.payoff +ℤ z) (units-both xs ys) ∙ sym (+ℤ_assoc x.payoff (payoff_units xs) (payoff_units ys))

-- ---- what is left to be counted

-- of rows, the rest is still to be counted
pub record Uncounted (start now : Totals) (all rest : List Row) : Type 0 where
  pub small : now.sum < 2 ^ 64
  pub count : now.rows + length rest ≡ start.rows + length all
  pub sum : (now.sum + modulo_2_64 (payoff_units rest)) % 2 ^ 64 ≡ (start.sum + modulo_2_64 (payoff_units all)) % 2 ^ 64

pub uncounted-all : (start : Totals) (all : List Row) → start.sum < 2 ^ 64 → Uncounted start start all all
uncounted-all start all small = record { small = small; count = refl; sum = refl }

-- some more were counted
pub uncounted-next : (start now next : Totals) (all left piece rest : List Row) → Uncounted start now all left → left ≡ piece ++ rest → Counts now next piece → Uncounted start next all rest
uncounted-next start now next all left piece rest before is counts =
    let long : length left ≡ length piece + length rest = ap length is ∙ length-append piece rest in
    let units : modulo_2_64 (payoff_units left) ≡ (modulo_2_64 (payoff_units piece) + modulo_2_64 (payoff_units rest)) % 2 ^ 64 =
    ap (λ (rows : List Row). modulo_2_64 (payoff_units rows)) is ∙ (ap modulo_2_64 (units-both piece rest) ∙ modulo-both (payoff_units piece) (payoff_units rest)) in
    record {
      small = omega (arith, counts.sum);
      count = omega (arith, before.count, long, counts.count);
      sum = omega (arith, before.sum, units, counts.sum);
    }

-- all were
pub uncounted-none : (start now : Totals) (all left : List Row) → Uncounted start now all left → left ≡ [] → Counts start now all
uncounted-none start now all left before none =
    let long : length left ≡ 0 = ap length none in
    let units : modulo_2_64 (payoff_units left) ≡ 0 = ap (λ (rows : List Row). modulo_2_64 (payoff_units rows)) none ∙ modulo-none in
    record {
      count = omega (arith, before.count, long);
      sum = omega (arith, before.sum, units, before.small);
    }

same-totals : (a b : Totals) → a.rows ≡ b.rows → a.sum ≡ b.sum → a ≡ b
same-totals a b rows sum = ap (λ (n : ℕ). record { rows = n; sum = a.sum }) rows ∙ ap (λ (n : ℕ). record { rows = b.rows; sum = n }) sum

-- what was counted from nothing on
pub counted-from-none : (now : Totals) (all : List Row) → Counts (record { rows = 0; sum = 0 }) now all → now ≡ totals_of all
counted-from-none now all counts = same-totals now (totals_of all) (omega (arith, counts.count)) (omega (arith, counts.sum, modulo-small (payoff_units all)))

-- ---- totals that are added

-- of totals, the rest is still to be added
pub record Unadded (start now : Totals) (all rest : List Totals) : Type 0 where
  pub small : now.sum < 2 ^ 64
  pub rows : now.rows + rows_in rest ≡ start.rows + rows_in all
  pub sum : (now.sum + sums_in rest) % 2 ^ 64 ≡ (start.sum + sums_in all) % 2 ^ 64

pub unadded-all : (start : Totals) (all : List Totals) → start.sum < 2 ^ 64 → Unadded start start all all
unadded-all start all small = record { small = small; rows = refl; sum = refl }

-- some more were added
pub unadded-next : (start now next : Totals) (all left piece rest : List Totals) → Unadded start now all left → left ≡ piece ++ rest → Adds now next piece → Unadded start next all rest
unadded-next start now next all left piece rest before is adds =
    let rows : rows_in left ≡ rows_in piece + rows_in rest = ap rows_in is ∙ sum_by-append (λ (t : Totals). t.rows) piece rest in
    let sums : sums_in left ≡ sums_in piece + sums_in rest = ap sums_in is ∙ sum_by-append (λ (t : Totals). t.sum) piece rest in
    record {
      small = omega (arith, adds.sum);
      rows = omega (arith, before.rows, rows, adds.rows);
      sum = omega (arith, before.sum, sums, adds.sum);
    }

-- all were
pub unadded-none : (start now : Totals) (all left : List Totals) → Unadded start now all left → left ≡ [] → Adds start now all
unadded-none start now all left before none =
    let rows : rows_in left ≡ 0 = ap rows_in none in
    let sums : sums_in left ≡ 0 = ap sums_in none in
    record { rows = omega (arith, before.rows, rows); sum = omega (arith, before.sum, sums, before.small) }

-- what was added from nothing on
pub added-from-none : (now : Totals) (all : List Totals) → Adds (record { rows = 0; sum = 0 }) now all → now ≡ all_totals all
added-from-none now all adds = same-totals now (all_totals all) (omega (arith, adds.rows)) (omega (arith, adds.sum))

-- the totals of answers together are those of all their rows
pub answers-together : (answers : List Reply) → all_totals (map answer_totals answers) ≡ totals_of (rows_of_answers answers)
answers-together answers = same-totals (all_totals (map answer_totals answers)) (totals_of (rows_of_answers answers)) (rows answers) (sums answers)
  where
    rows : (answers : List Reply) → rows_in (map answer_totals answers) ≡ length (rows_of_answers answers)
    rows [] = refl
    rows (answer ∷ answers) =
        omega (
          arith,
          sum_by-cons (λ (t : Totals). t.rows) (answer_totals answer) (map answer_totals answers),
          rows answers,
          length-append (rows_of_runs answer.runs) (rows_of_answers answers),
        )

    sums : (answers : List Reply) → sums_in (map answer_totals answers) % 2 ^ 64 ≡ modulo_2_64 (payoff_units (rows_of_answers answers))
    sums [] = sym modulo-none
    sums (answer ∷ answers) =
        let both : modulo_2_64 (payoff_units (rows_of_answers (answer ∷ answers))) ≡ (modulo_2_64 (payoff_units (rows_of_runs answer.runs)) + modulo_2_64 (payoff_units (rows_of_answers answers))) % 2 ^ 64 =
        ap modulo_2_64 (units-both (rows_of_runs answer.runs) (rows_of_answers answers)) ∙ modulo-both (payoff_units (rows_of_runs answer.runs)) (payoff_units (rows_of_answers answers)) in
        omega (arith, sum_by-cons (λ (t : Totals). t.sum) (answer_totals answer) (map answer_totals answers), sums answers, both)

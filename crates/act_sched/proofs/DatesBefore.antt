-- The days of a rising sequence that are before an end.
use Rattle.std.proofs.Common.{◌≡◌, ℕ, zero, suc, ◌+◌, ◌<◌, ◌≤◌, ℤ, ◌-ℤ◌, ◌<ℤ◌, ◌≤ℤ◌, unsigned_abs, List, [], ◌∷◌, length, get_or, Option, Some, None, true, false, inl, inr, refl, sym, ap, arith, zero-add}
use Rattle.std.proofs.lemmas.Bool.{cases_Bool, cases_lt}
use Rattle.std.proofs.lemmas.Int.{ints}
use Rattle.std.proofs.lemmas.Option.{cond_some, none-some, same_Some}
use Rattle.std.specs.Prelude.{int_lt}
use Rattle.act_date.specs.Civil.{IsDay}
use Rattle.act_date.specs.declared.cycle.Cycle.{Cycle}
use Rattle.act_date.specs.declared.cycle.MonthRule.{MonthRule}
use Rattle.act_sched.specs.Schedule.{cycle_date, dates_before, days_from, if_before}
use Rattle.act_sched.proofs.CycleDates.{cycle_date-rises}
use Rattle.act_sched.proofs.Rising.{Rises, before, far}

-- ---- what such a list is

-- xs are the days of the sequence before the end: the next isn't
pub record AreBefore (days : ℕ → Option ℤ) (end : ℤ) (xs : List ℤ) : Type 0 where
  pub at : (i : ℕ) (x : ℤ) → i < length xs → (days i ≡ Some (get_or xs i x)) × (get_or xs i x <ℤ end)
  pub next : (x : ℤ) → days (length xs) ≡ Some x → end ≤ℤ x

-- nor is a later one
pub late : {days : ℕ → Option ℤ} {start end : ℤ} {xs : List ℤ} → Rises days start → AreBefore days end xs → (k : ℕ) (x : ℤ) → length xs ≤ k → days k ≡ Some x → end ≤ℤ x
late {days} {start} {end} {xs} up all k x le is =
    elim (cases_lt (length xs) k) [
      | inl lt ↦ let first = before up (length xs) k x lt is in let low = all.next first.0 first.1 in omega (arith, ints)
      | inr ge ↦ let here : k ≡ length xs = omega arith in all.next x (rw here at is)
    ]

-- ---- the definition gives it

if_before-some : (end : ℤ) (day : Option ℤ) (x : ℤ) → if_before end day ≡ Some x → (day ≡ Some x) × (x <ℤ end)
if_before-some end None x e = absurd (none-some x e)
if_before-some end (Some d) x e =
    let p = cond_some (int_lt d end) d x e in
    let is : int_lt d end ≡ true = p.0 in
    let same : d ≡ x = p.1 in
    (ap Some same, omega (arith, ints))

if_before-none : (end : ℤ) (day : Option ℤ) (x : ℤ) → if_before end day ≡ None → day ≡ Some x → end ≤ℤ x
if_before-none end None x e is = absurd (none-some x is)
if_before-none end (Some d) x e is =
    elim (cases_Bool (int_lt d end)) [
      | inl holds ↦ absurd (none-some d (sym (rw holds at e)))
      | inr fails ↦ let same : d ≡ x = same_Some d x is in omega (arith, ints)
    ]

pub if_before-late : (end : ℤ) (day : Option ℤ) → ((x : ℤ) → day ≡ Some x → end ≤ℤ x) → if_before end day ≡ None
if_before-late end None late = refl
if_before-late end (Some d) late =
    let from : end ≤ℤ d = late d refl in
    let no : int_lt d end ≡ false = grind (arith, ints) in
    rw no refl

-- xs are the members of the sequence from its kth on, as far as there are any
record Follows (days : ℕ → Option ℤ) (k : ℕ) (xs : List ℤ) : Type 0 where
  at : (i : ℕ) (x : ℤ) → i < length xs → days (k + i) ≡ Some (get_or xs i x)
  next : days (k + length xs) ≡ None

follows-nil : (days : ℕ → Option ℤ) (k : ℕ) → days k ≡ None → Follows days k []
follows-nil days k is = let none : k + 0 ≡ k = omega arith in record { at = λ i x lt. absurd (omega arith); next = rw none is }

at_front : (days : ℕ → Option ℤ) (k : ℕ) (d : ℤ) (xs : List ℤ) → days k ≡ Some d → Follows days (suc k) xs → (i : ℕ) (x : ℤ) → i < length (d ∷ xs) → days (k + i) ≡ Some (get_or (d ∷ xs) i x)
at_front days k d xs is rest zero x lt = let none : k + 0 ≡ k = omega arith in rw none is
at_front days k d xs is rest (suc i) x lt = let one : k + suc i ≡ suc k + i = omega arith in rw one (rest.at i x (omega arith))

follows-cons : (days : ℕ → Option ℤ) (k : ℕ) (d : ℤ) (xs : List ℤ) → days k ≡ Some d → Follows days (suc k) xs → Follows days k (d ∷ xs)
follows-cons days k d xs is rest =
    let one : k + suc (length xs) ≡ suc k + length xs = omega arith in record { at = at_front days k d xs is rest; next = rw one rest.next }

step : (days : ℕ → Option ℤ) (n k : ℕ) (day : Option ℤ) → days k ≡ day → Follows days (suc k) (days_from days n (suc k) (days (suc k))) → Follows days k (days_from days (suc n) k day)
unfolding days_from
step days n k None is rest = follows-nil days k is
step days n k (Some d) is rest = follows-cons days k d _ is rest

days_from-follows : (days : ℕ → Option ℤ) (n k : ℕ) → days (k + n) ≡ None → Follows days k (days_from days n k (days k))
unfolding days_from
days_from-follows days zero k none = let here : k + 0 ≡ k = omega arith in follows-nil days k (rw here at none)
days_from-follows days (suc n) k none =
    let one : k + suc n ≡ suc k + n = omega arith in step days n k (days k) refl (days_from-follows days n (suc k) (rw one at none))

pub dates_before-are : (anchor : ℤ) (cycle : Cycle) (end : ℤ) (rule : MonthRule) → IsDay anchor → 1 ≤ cycle.count → AreBefore (cycle_date anchor cycle rule) end (dates_before anchor cycle end rule)
unfolding dates_before
dates_before-are anchor cycle end rule h some =
    let days = cycle_date anchor cycle rule in
    let up = cycle_date-rises anchor cycle rule h some in
    let n = unsigned_abs (end -ℤ anchor) in
    let late : (x : ℤ) → days n ≡ Some x → end ≤ℤ x = λ x is. let low = far up n x is in omega (arith, ints) in
    let none : 0 + n ≡ n = omega arith in
    let all = days_from-follows (λ k. if_before end (days k)) n 0 (rw none (if_before-late end (days n) late)) in
    record {
      at = λ i x lt. let here : 0 + i ≡ i = omega arith in if_before-some end _ _ (rw here at (all.at i x lt));
      next = λ x is. if_before-none end _ x (rw zero-add at all.next) is;
    }

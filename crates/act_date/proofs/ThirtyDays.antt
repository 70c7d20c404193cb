-- Later days have later dates, also where each month has 30 days.
use Rattle.std.proofs.Common.{◌≡◌, ℕ, ◌+◌, ◌-◌, ◌*◌, ◌<◌, ◌≤◌, ◌⊎◌, inl, inr, min, true, false, Option, if◌then◌else◌, ℤ, pos, ◌<ℤ◌, refl, sym, ◌∙◌, arith}
use Rattle.std.proofs.lemmas.Bool.{cases_order}
use Rattle.std.proofs.lemmas.Bool.Decides.{nat_tests}
use Rattle.jiff_core.specs.Calendar.{days_from_civil, day_count, IsCivilDate}
use Rattle.jiff_core.proofs.SignedLemmas.{signed_arith}
use Rattle.jiff_core.proofs.CalendarLemmas.{days_from_civil-day_count, day_count-lt_year, day_count-lt_month, day_count-day}
use Rattle.act_date.specs.Civil.{Civil, IsCivil, IsDateOf, month_length, civil_of}
use Rattle.act_date.specs.DayCount.{isda_day, isda_second_day, is_maturity_in_february}
use Rattle.act_date.proofs.CivilLemmas.{days_from_civil-day_number}

-- the order of year, month and day
abbrev pub IsBefore : Civil → Civil → Type 0
IsBefore a b = (a.year < b.year) ⊎ ((a.year ≡ b.year) × ((a.month < b.month) ⊎ ((a.month ≡ b.month) × (a.day < b.day))))

cases_civil : (a b : Civil) → IsBefore a b ⊎ (IsBefore b a ⊎ ((a.year ≡ b.year) × (a.month ≡ b.month) × (a.day ≡ b.day)))
cases_civil a b =
    elim (cases_order a.year b.year) [
      | inr (inl lt) ↦ inl (inl lt)
      | inr (inr gt) ↦ inr (inl (inl gt))
      | inl year ↦ elim (cases_order a.month b.month) [
        | inr (inl lt) ↦ inl (inr (year, inl lt))
        | inr (inr gt) ↦ inr (inl (inr (sym year, inl gt)))
        | inl month ↦ elim (cases_order a.day b.day) [
          | inr (inl lt) ↦ inl (inr (year, inr (month, lt)))
          | inr (inr gt) ↦ inr (inl (inr (sym year, inr (sym month, gt))))
          | inl day ↦ inr (inr (year, month, day))
        ]
      ]
    ]

civil_date : (day : ℤ) (a : Civil) → IsDateOf day a → IsCivilDate (pos a.year) a.month a.day
civil_date day a h =
    ((omega (arith, signed_arith, h), omega (arith, signed_arith, h)), (h.valid.month_from, h.valid.month_to), (h.valid.day_from, h.valid.day_to))

day_count-before : (day day₂ : ℤ) (a b : Civil) → IsDateOf day a → IsDateOf day₂ b → IsBefore a b → day_count (pos a.year) a.month a.day < day_count (pos b.year) b.month b.day
day_count-before day day₂ a b h k (inl year) = day_count-lt_year _ _ _ _ b.month b.day (civil_date day a h) k.valid.day_from (omega (arith, signed_arith))
day_count-before day day₂ a b h k (inr (year, inl month)) = rw (← year) (day_count-lt_month _ _ _ _ b.day (civil_date day a h) k.valid.day_from month)
day_count-before day day₂ a b h k (inr (year, inr lt)) =
    rw (← year, ← lt.0) (omega (arith, lt.1, day_count-day (pos a.year) a.month a.day b.day h.valid.day_from k.valid.day_from))

number_is : (day : ℤ) (a : Civil) → IsDateOf day a → days_from_civil (pos a.year) a.month a.day ≡ day
number_is day a h =
    let year : 1900 + (a.year - 1900) ≡ a.year = omega (arith, h) in
    rw year at (days_from_civil-day_number (a.year - 1900) a.month a.day h.valid.day_from) ∙ h.number

-- the later date has the later day
pub later_day : (day day₂ : ℤ) (a b : Civil) → IsDateOf day a → IsDateOf day₂ b → IsBefore a b → day <ℤ day₂
later_day day day₂ a b h k before =
    omega (arith, signed_arith, days_from_civil-day_count, number_is day a h, number_is day₂ b k, day_count-before day day₂ a b h k before)

-- the later day has the later date
pub later_date : (day day₂ : ℤ) (a b : Civil) → IsDateOf day a → IsDateOf day₂ b → day <ℤ day₂ → IsBefore a b
later_date day day₂ a b h k lt =
    let p = number_is day a h in
    let q = number_is day₂ b k in
    elim (cases_civil a b) [
      | inl before ↦ before
      | inr (inl after) ↦ absurd (omega (arith, signed_arith, days_from_civil-day_count, day_count-before day₂ day b a k h after))
      | inr (inr same) ↦ let e = rw (same.0, same.1, same.2) at p in absurd (omega (arith, signed_arith))
    ]

-- counted in months of 30 days the later date isn't before, where within a month the days keep their order
pub later_number : (a b : Civil) (p q : ℕ) → IsCivil a → IsCivil b → IsBefore a b → p ≤ 30 → 1 ≤ q → (a.year ≡ b.year → a.month ≡ b.month → a.day < b.day → p ≤ q) → 360 * a.year + 30 * a.month + p ≤ 360 * b.year + 30 * b.month + q
later_number a b p q h k (inl year) low high within = omega (arith, h, k)
later_number a b p q h k (inr (year, inl month)) low high within = omega (arith, h, k)
later_number a b p q h k (inr (year, inr same)) low high within = omega (arith, within year same.0 same.1)

-- a last day of a month counts as the 30th, and other days of a month as themselves
pub record IsdaDay (date : Civil) : Type 0 where
  pub low : 1 ≤ isda_day date
  pub high : isda_day date ≤ 30
  pub before_last : date.day < month_length date.year date.month → isda_day date ≡ date.day
  pub at_least : min date.day 30 ≤ isda_day date

pub isda : (date : Civil) → IsCivil date → IsdaDay date
isda date h =
    let long : month_length date.year date.month ≤ 31 = grind arith in
    record { low = grind (arith, nat_tests); high = grind (arith, nat_tests); before_last = λ lt. grind (arith, nat_tests); at_least = grind (arith, nat_tests) }

-- the second day counts as itself, or as in isda_day
pub isda_second : (t : ℤ) (maturity : Option ℤ) → (isda_second_day t maturity ≡ (civil_of t).day) ⊎ (isda_second_day t maturity ≡ isda_day (civil_of t))
isda_second t maturity = elim (is_maturity_in_february t maturity) as (λ b. ((if b then (civil_of t).day else isda_day (civil_of t)) ≡ (civil_of t).day) ⊎ ((if b then (civil_of t).day else isda_day (civil_of t)) ≡ isda_day (civil_of t))) [ true ↦ inl refl | false ↦ inr refl ]

pub later_isda : (s t : ℤ) (maturity : Option ℤ) → IsDateOf s (civil_of s) → IsDateOf t (civil_of t) → s <ℤ t → 360 * (civil_of s).year + 30 * (civil_of s).month + isda_day (civil_of s) ≤ 360 * (civil_of t).year + 30 * (civil_of t).month + isda_second_day t maturity
later_isda s t maturity h k lt =
    let first = isda (civil_of s) h.valid in
    let second = isda (civil_of t) k.valid in
    let low : 1 ≤ isda_second_day t maturity = elim (isda_second t maturity) [ inl e ↦ rw e k.valid.day_from | inr e ↦ rw e second.low ] in
    later_number _ _ (isda_day (civil_of s)) (isda_second_day t maturity) h.valid k.valid (later_date s t _ _ h k lt) first.high low (λ year month before.
    let last : (civil_of s).day < month_length (civil_of s).year (civil_of s).month = rw (year, month) (omega (arith, k.valid.day_to)) in
    let same = first.before_last last in
    elim (isda_second t maturity) [ inl e ↦ rw e (omega (arith, same)) | inr e ↦ rw e (omega (arith, same, first.high, second.at_least)) ])

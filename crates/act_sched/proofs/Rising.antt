-- Sequences of days that rise until they end.
use Rattle.std.proofs.Common.{◌≡◌, ℕ, zero, suc, ◌<◌, ℤ, pos, ◌+ℤ◌, ◌<ℤ◌, ◌≤ℤ◌, Option, Some, None, refl, sym, ◌∙◌, arith}
use Rattle.std.proofs.lemmas.Int.{ints}
use Rattle.std.proofs.lemmas.Option.{same_Some}
use Rattle.act_date.specs.Cycle.{ComesAfter}

-- the sequence starts with a day, and each later member comes after it, or is past the last
pub record Rises (days : ℕ → Option ℤ) (start : ℤ) : Type 0 where
  pub first : days 0 ≡ Some start
  pub after : (k m : ℕ) → k < m → ComesAfter (days m) (days k)

before_of : (earlier later : Option ℤ) (e : ℤ) → later ≡ Some e → ComesAfter later earlier → (d : ℤ) × (earlier ≡ Some d) × (d <ℤ e)
before_of None later e is after = absurd (rw is at after)
before_of (Some d) later e is after = (d, refl, rw is at after)

-- before a day of the sequence there are days, and they are earlier
pub before : {days : ℕ → Option ℤ} {start : ℤ} → Rises days start → (k m : ℕ) (e : ℤ) → k < m → days m ≡ Some e → (d : ℤ) × (days k ≡ Some d) × (d <ℤ e)
before {days} up k m e lt is = before_of (days k) (days m) e is (up.after k m lt)

-- they rise by a day at least
pub far : {days : ℕ → Option ℤ} {start : ℤ} → Rises days start → (k : ℕ) (d : ℤ) → days k ≡ Some d → (start +ℤ pos k) ≤ℤ d
far {days} {start} up zero d is = let same : start ≡ d = same_Some start d (sym up.first ∙ is) in omega (arith, ints)
far {days} {start} up (suc k) d is =
    let last = before up k (suc k) d (omega arith) is in
    let ih = far up k last.0 last.1 in
    omega (arith, ints)

-- The later and the latest of some dates, one date after the other.
use Rattle.std.proofs.Common.{◌≡◌, ℕ, ◌+◌, ◌≤◌, ℤ, int_le, int_lt, List, [], ◌∷◌, ◌++◌, length, take, drop, Option, Some, None, refl, sym, ap, ◌∙◌, arith, add-one, length-append}
use Rattle.std.proofs.Math.Seq.{take-suc}
use Rattle.std.proofs.lemmas.List.{take-append-drop, take_all}
use Rattle.std.proofs.lemmas.List.Elements.{filter-append}
use Rattle.std.proofs.lemmas.List.Sums.{fold-append}
use Rattle.std.proofs.lemmas.Option.{get_or_from_slice_get, slice_get_within}
use Rattle.std.specs.Int.{int_max}
use Rattle.std.specs.List.{filter, slice_get}
use Rattle.act_sched.specs.Schedule.{later_dates, latest_in}

later_append : (after : Option ℤ) (xs ys : List ℤ) → later_dates after (xs ++ ys) ≡ later_dates after xs ++ later_dates after ys
later_append None xs ys = refl
later_append (Some day) xs ys = filter-append (λ d. int_lt day d) xs ys

taken_more : (xs : List ℤ) (k : ℕ) (d : ℤ) → slice_get xs k ≡ Some d → take (k + 1) xs ≡ take k xs ++ d ∷ []
taken_more xs k d is = rw (add-one, take-suc xs k d (slice_get_within xs k d is), get_or_from_slice_get xs k d d is) refl

-- ---- the later dates

pub later_more : (after : Option ℤ) (xs : List ℤ) (k : ℕ) (d : ℤ) (so_far : List ℤ) → so_far ≡ later_dates after (take k xs) → slice_get xs k ≡ Some d →
    so_far ++ later_dates after (d ∷ []) ≡ later_dates after (take (k + 1) xs)
later_more after xs k d so_far old is = rw (old, taken_more xs k d is) (sym (later_append after (take k xs) (d ∷ [])))

pub later_all : (after : Option ℤ) (xs : List ℤ) (k : ℕ) → length xs ≤ k → later_dates after (take k xs) ≡ later_dates after xs
later_all after xs k le = rw (take_all k xs le) refl

pub later_fewer : (after : Option ℤ) (xs : List ℤ) (k : ℕ) → length (later_dates after (take k xs)) ≤ length (later_dates after xs)
later_fewer after xs k =
    let parts : later_dates after xs ≡ later_dates after (take k xs) ++ later_dates after (drop k xs) =
    ap (later_dates after) (sym (take-append-drop k xs)) ∙ later_append after (take k xs) (drop k xs) in
    rw parts (omega (arith, length-append (later_dates after (take k xs)) (later_dates after (drop k xs))))

-- ---- the latest date

pub latest_none : (until first : ℤ) (after : Option ℤ) → latest_in until after first [] ≡ first
latest_none until first None = refl
latest_none until first (Some day) = refl

pub one_by_one : (until first : ℤ) (after : Option ℤ) (xs ys : List ℤ) → latest_in until after first (xs ++ ys) ≡ latest_in until after (latest_in until after first xs) ys
one_by_one until first after xs ys =
    let p = λ (d : ℤ). int_le d until in
    rw (later_append after xs ys, filter-append p (later_dates after xs) (later_dates after ys))
    (fold-append int_max first (filter p (later_dates after xs)) (filter p (later_dates after ys)))

pub latest_more : (until first : ℤ) (after : Option ℤ) (xs : List ℤ) (k : ℕ) (d so_far : ℤ) → so_far ≡ latest_in until after first (take k xs) → slice_get xs k ≡ Some d →
    latest_in until after so_far (d ∷ []) ≡ latest_in until after first (take (k + 1) xs)
latest_more until first after xs k d so_far old is = rw (old, taken_more xs k d is) (sym (one_by_one until first after (take k xs) (d ∷ [])))

pub latest_all : (until first : ℤ) (after : Option ℤ) (xs : List ℤ) (k : ℕ) → length xs ≤ k → latest_in until after first (take k xs) ≡ latest_in until after first xs
latest_all until first after xs k le = rw (take_all k xs le) refl

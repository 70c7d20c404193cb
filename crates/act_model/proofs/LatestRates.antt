-- The latest of some rates, once there is one more.
use Rattle.std.proofs.Common.{◌≡◌, ℕ, ◌+◌, ◌<◌, Bool, true, false, cond, ℤ, List, [], ◌∷◌, ◌++◌, length, get_or, map, take, Option, Some, None, option_map, refl, ap, ◌∙◌, if◌then◌else◌}
use Rattle.std.proofs.lemmas.Bool.Decides.{Decides-int_eq}
use Rattle.std.proofs.lemmas.List.{append-nil, map-append, take_more}
use Rattle.std.proofs.lemmas.List.Elements.{filter-append, filter_map-append}
use Rattle.std.proofs.lemmas.List.Sums.{fold-append}
use Rattle.std.proofs.lemmas.Option.{same_Some}
use Rattle.std.specs.Int.{int_max}
use Rattle.std.specs.List.{cons_option, filter, last_or, reduce}
use Rattle.std.specs.Ordering.{int_eq}
use Rattle.std.specs.Prelude.{int_lt}
use Rattle.act_model.specs.declared.observed.Obs.{Obs}
use Rattle.act_model.specs.Latest.{later}
use Rattle.act_model.specs.Observed.{last_of_day, observation, rate_until, rates_until}

-- ---- lists

reduce_push : {A : Type 0} (f : A → A → A) (xs : List A) (x y : A) → reduce f xs ≡ Some y → reduce f (xs ++ x ∷ []) ≡ Some (f y x)
reduce_push f [] x y e = absurd (cc)
reduce_push f (z ∷ xs) x y e =
    ap Some (fold-append f z xs (x ∷ [])) ∙ ap (λ y. Some (f y x)) (same_Some _ _ e)

last_push : {A : Type 0} (o : Option A) (xs : List A) (x : A) → last_or o (xs ++ x ∷ []) ≡ Some x
last_push o [] x = refl
last_push o (y ∷ xs) x = last_push (Some y) xs x

-- ---- rates

same_day : (day : ℤ) → int_eq day day ≡ true
same_day day = (Decides-int_eq day day).1 refl

before_is_false : (a b : ℤ) → int_lt a b ≡ true → int_eq a b ≡ false
before_is_false a b lt = rw lt refl

-- the day and the value are those of the latest rate, or there is none
abbrev pub IsLatestOf : List (ℤ × ℤ) → Option (ℤ × ℤ) → Type 0
IsLatestOf rates None = rates ≡ []
IsLatestOf rates (Some found) = (reduce int_max (map (λ rate. rate.0) rates) ≡ Some found.0) × (last_of_day rates found.0 ≡ Some found.1)

module _ (rates : List (ℤ × ℤ)) (next : ℤ × ℤ) where
  next_is_last : last_of_day (rates ++ next ∷ []) next.0 ≡ Some next.1
  next_is_last =
      rw (filter-append, same_day next.0) (ap (option_map (λ rate. rate.1)) (last_push None (filter (λ rate. int_eq rate.0 next.0) rates) next))

  next_passed_over : (day : ℤ) → int_eq next.0 day ≡ false → last_of_day (rates ++ next ∷ []) day ≡ last_of_day rates day
  next_passed_over day other = rw (filter-append, other, append-nil) refl

  days_more : (day : ℤ) → reduce int_max (map (λ rate. rate.0) rates) ≡ Some day → reduce int_max (map (λ rate. rate.0) (rates ++ next ∷ [])) ≡ Some (int_max day next.0)
  days_more day e = rw map-append (reduce_push int_max (map (λ rate. rate.0) rates) next.0 day e)

  by_order : (found : ℤ × ℤ) → IsLatestOf rates (Some found) → (b : Bool) → int_lt next.0 found.0 ≡ b → IsLatestOf (rates ++ next ∷ []) (Some (if b then found else next))
  by_order found h true e =
      (days_more found.0 h.0 ∙ ap (λ b. Some (cond b found.0 next.0)) e, next_passed_over found.0 (before_is_false next.0 found.0 e) ∙ h.1)
  by_order found h false e = (days_more found.0 h.0 ∙ ap (λ b. Some (cond b found.0 next.0)) e, next_is_last)

pub latest_more : (rates : List (ℤ × ℤ)) (found next : Option (ℤ × ℤ)) → IsLatestOf rates found → IsLatestOf (rates ++ cons_option next []) (later found next)
latest_more rates found None h = rw append-nil h
latest_more rates None (Some next) h = rw h (refl, next_is_last [] next)
latest_more rates (Some found) (Some next) h = by_order rates next found h (int_lt next.0 found.0) refl

-- ---- entries

pub latest_next : (entries : List Obs) (entry : Obs) (code : ℕ) (t : ℤ) (found : Option (ℤ × ℤ)) → IsLatestOf (rates_until entries code t) found → IsLatestOf (rates_until (entries ++ entry ∷ []) code t) (later found (rate_until code t entry))
latest_next entries entry code t found h =
    rw filter_map-append (latest_more (rates_until entries code t) found (rate_until code t entry) h)

-- a turn of a loop over the entries
pub latest_turn : (entries : List Obs) (i : ℕ) (entry : Obs) (code : ℕ) (t : ℤ) (found : Option (ℤ × ℤ)) → (i < length entries) × (entry ≡ get_or entries i entry) → IsLatestOf (rates_until (take i entries) code t) found → IsLatestOf (rates_until (take (i + 1) entries) code t) (later found (rate_until code t entry))
latest_turn entries i entry code t found at h =
    rw (take_more entries i entry at.0, ← at.1) (latest_next (take i entries) entry code t found h)

pub latest_is : (entries : List Obs) (code : ℕ) (t : ℤ) (found : Option (ℤ × ℤ)) → IsLatestOf (rates_until entries code t) found → observation entries code t ≡ option_map (λ rate. rate.1) found
unfolding observation
latest_is entries code t None h = rw h refl
latest_is entries code t (Some found) h = rw h.0 h.1

-- The least day of the entries that pass a test.
use Rattle.std.proofs.Common.{◌≡◌, ℕ, zero, suc, ◌+◌, ◌-◌, ◌<◌, ◌≤◌, ◌||◌, cond, Bool, true, false, ℤ, ◌≤ℤ◌, List, [], ◌∷◌, take, drop, map, Option, Some, None, refl, sym, ap, ◌∙◌, arith}
use Rattle.std.proofs.lemmas.Int.{ints}
use Rattle.std.proofs.lemmas.List.{length-take}
use Rattle.std.proofs.lemmas.Option.{same_Some, slice_get_within}
use Rattle.std.specs.Int.{int_min}
use Rattle.std.specs.List.{filter, fold, slice_get}
use Rattle.act_model.specs.declared.observed.Obs.{Obs}
use Rattle.act_profile.specs.Dates.{least}
use Rattle.act_profile.specs.Reads.{day_of_entry}
use Rattle.act_cut.specs.Cut.{earlier, lesser}
use Rattle.act_cut.specs.Lows.{least_by}

-- ---- the least of some days

min_comm : (a b : ℤ) → int_min a b ≡ int_min b a
min_comm a b = grind (arith, ints)

min_assoc : (a b c : ℤ) → int_min (int_min a b) c ≡ int_min a (int_min b c)
min_assoc a b c = grind (arith, ints)

fold-min : (a b : ℤ) (days : List ℤ) → fold int_min (int_min a b) days ≡ int_min (fold int_min b days) a
fold-min a b [] = min_comm a b
fold-min a b (day ∷ days) = ap (λ m. fold int_min m days) (min_assoc a b day) ∙ fold-min a (int_min b day) days

-- a day more, in front
least-cons : (day : ℤ) (days : List ℤ) → least (day ∷ days) ≡ Some (earlier (least days) day)
least-cons day [] = refl
least-cons day (next ∷ days) = ap (λ m. Some m) (fold-min day next days)

-- the same where a test decides whether there is one
abbrev next_least : Bool → Option ℤ → ℤ → Option ℤ
next_least true found day = Some (earlier found day)
next_least false found day = found

least_if : (b : Bool) (entry : Obs) (entries : List Obs) → least (map day_of_entry (cond b (entry ∷ entries) entries)) ≡ next_least b (least (map day_of_entry entries)) (day_of_entry entry)
least_if true entry entries = least-cons (day_of_entry entry) (map day_of_entry entries)
least_if false entry entries = refl

least_next : (test : Obs → Bool) (entry : Obs) (entries : List Obs)
    → least (map day_of_entry (filter test (entry ∷ entries))) ≡ next_least (test entry) (least (map day_of_entry (filter test entries))) (day_of_entry entry)
least_next test entry entries = least_if (test entry) entry (filter test entries)

-- ---- two tests

lesser_next : (p q : Bool) (a b : Option ℤ) (day : ℤ) → next_least (p || q) (lesser a b) day ≡ lesser (next_least p a day) (next_least q b day)
lesser_next false false a b day = refl
lesser_next false true None None day = refl
lesser_next false true None (Some b) day = refl
lesser_next false true (Some a) None day = refl
lesser_next false true (Some a) (Some b) day = grind (arith, ints)
lesser_next true false None None day = refl
lesser_next true false None (Some b) day = grind (arith, ints)
lesser_next true false (Some a) None day = refl
lesser_next true false (Some a) (Some b) day = grind (arith, ints)
lesser_next true true None None day = grind (arith, ints)
lesser_next true true None (Some b) day = grind (arith, ints)
lesser_next true true (Some a) None day = grind (arith, ints)
lesser_next true true (Some a) (Some b) day = grind (arith, ints)

module _ (test first second : Obs → Bool) (either : (entry : Obs) → test entry ≡ (first entry || second entry)) where
  least_either : (entries : List Obs)
      → least (map day_of_entry (filter test entries)) ≡ lesser (least (map day_of_entry (filter first entries))) (least (map day_of_entry (filter second entries)))
  least_either [] = refl
  least_either (entry ∷ entries) =
      least_next test entry entries
      ∙ ap (λ b. next_least b (least (map day_of_entry (filter test entries))) (day_of_entry entry)) (either entry)
      ∙ ap (λ found. next_least (first entry || second entry) found (day_of_entry entry)) (least_either entries)
      ∙ lesser_next (first entry) (second entry) (least (map day_of_entry (filter first entries))) (least (map day_of_entry (filter second entries))) (day_of_entry entry)
      ∙ ap (λ found. lesser found (next_least (second entry) (least (map day_of_entry (filter second entries))) (day_of_entry entry))) (sym (least_next first entry entries))
      ∙ ap (lesser (least (map day_of_entry (filter first (entry ∷ entries))))) (sym (least_next second entry entries))

  -- what passes one of two tests
  pub either_by : (entries : List Obs) (u w : ℕ) → least_by test entries u w ≡ lesser (least_by first entries u w) (least_by second entries u w)
  unfolding least_by
  either_by entries u w = least_either (drop u (take w entries))

-- ---- what is the least

module _ (test : Obs → Bool) where
  fails : (b : Bool) → (b ≡ true → ⊥) → b ≡ false
  fails true not = absurd (not refl)
  fails false not = refl

  least_none : (entries : List Obs) → ((k : ℕ) (entry : Obs) → slice_get entries k ≡ Some entry → test entry ≡ true → ⊥) → least (map day_of_entry (filter test entries)) ≡ None
  least_none [] none = refl
  least_none (entry ∷ entries) none =
      least_next test entry entries
      ∙ ap (λ b. next_least b (least (map day_of_entry (filter test entries))) (day_of_entry entry)) (fails (test entry) (none zero entry refl))
      ∙ least_none entries (λ k. none (suc k))

  abbrev IsAbove : ℤ → Option ℤ → Type 0
  IsAbove day None = Unit {0}
  IsAbove day (Some found) = day ≤ℤ found

  above_next : (b : Bool) (found : Option ℤ) (least day : ℤ) → IsAbove least found → (b ≡ true → least ≤ℤ day) → IsAbove least (next_least b found day)
  above_next false found least day above here = above
  above_next true None least day above here = here refl
  above_next true (Some found) least day above here = let order = here refl in grind (arith, ints)

  -- a day that is before none of them
  least_above : (entries : List Obs) (day : ℤ) → ((k : ℕ) (entry : Obs) → slice_get entries k ≡ Some entry → test entry ≡ true → day ≤ℤ day_of_entry entry) → IsAbove day (least (map day_of_entry (filter test entries)))
  least_above [] day each = tt
  least_above (entry ∷ entries) day each =
      rw (least_next test entry entries) (above_next (test entry) (least (map day_of_entry (filter test entries))) day (day_of_entry entry) (least_above entries day (λ k. each (suc k))) (each zero entry refl))

  reached_here : (found : Option ℤ) (day : ℤ) → IsAbove day found → Some (earlier found day) ≡ Some day
  reached_here None day above = refl
  reached_here (Some found) day above = grind (arith, ints)

  reached_next : (b : Bool) (least day : ℤ) → (b ≡ true → least ≤ℤ day) → next_least b (Some least) day ≡ Some least
  reached_next false least day here = refl
  reached_next true least day here = let order = here refl in grind (arith, ints)

  least_some : (entries : List Obs) (place : ℕ) (found : Obs) → slice_get entries place ≡ Some found → test found ≡ true
      → ((k : ℕ) (entry : Obs) → slice_get entries k ≡ Some entry → test entry ≡ true → day_of_entry found ≤ℤ day_of_entry entry) → least (map day_of_entry (filter test entries)) ≡ Some (day_of_entry found)
  least_some [] place found at passes each = absurd (cc)
  least_some (entry ∷ entries) zero found at passes each =
      let same : entry ≡ found = same_Some entry found at in
      rw same (least_next test found entries
      ∙ ap (λ b. next_least b (least (map day_of_entry (filter test entries))) (day_of_entry found)) passes
      ∙ reached_here (least (map day_of_entry (filter test entries))) (day_of_entry found) (least_above entries (day_of_entry found) (λ k. each (suc k))))
  least_some (entry ∷ entries) (suc place) found at passes each =
      least_next test entry entries
      ∙ ap (λ found. next_least (test entry) found (day_of_entry entry)) (least_some entries place found at passes (λ k. each (suc k)))
      ∙ reached_next (test entry) (day_of_entry found) (day_of_entry entry) (each zero entry refl)

-- ---- the entries between two places

get-drop : {X : Type 0} (xs : List X) (u k : ℕ) → slice_get (drop u xs) k ≡ slice_get xs (u + k)
get-drop xs zero k = ap (slice_get xs) (omega arith)
get-drop [] (suc u) k = refl
get-drop (x ∷ xs) (suc u) k = let next : suc (u + k) ≡ suc u + k = omega arith in get-drop xs u k ∙ ap (slice_get (x ∷ xs)) next

pub get-take : {X : Type 0} (xs : List X) (n k : ℕ) → k < n → slice_get (take n xs) k ≡ slice_get xs k
get-take [] zero k lt = refl
get-take [] (suc n) k lt = refl
get-take (x ∷ xs) zero k lt = absurd (omega arith)
get-take (x ∷ xs) (suc n) zero lt = refl
get-take (x ∷ xs) (suc n) (suc k) lt = get-take xs n k (omega arith)

module _ (entries : List Obs) (u w : ℕ) where
  -- one that stands between them
  between-told : (k : ℕ) (entry : Obs) → slice_get (drop u (take w entries)) k ≡ Some entry → (u + k < w) × (slice_get entries (u + k) ≡ Some entry)
  between-told k entry is =
      let at : slice_get (take w entries) (u + k) ≡ Some entry = sym (get-drop (take w entries) u k) ∙ is in
      let below : u + k < w = omega (arith, slice_get_within (take w entries) (u + k) entry at, length-take w entries) in
      (below, sym (get-take entries w (u + k) below) ∙ at)

  between-there : (place : ℕ) (entry : Obs) → u ≤ place → place < w → slice_get entries place ≡ Some entry → slice_get (drop u (take w entries)) (place - u) ≡ Some entry
  between-there place entry from below is =
      get-drop (take w entries) u (place - u) ∙ ap (slice_get (take w entries)) (omega arith) ∙ get-take entries w place below ∙ is

  module _ (test : Obs → Bool) where
    -- none of them passes the test
    pub none_by : ((place : ℕ) (entry : Obs) → u ≤ place → place < w → slice_get entries place ≡ Some entry → test entry ≡ true → ⊥) → least_by test entries u w ≡ None
    unfolding least_by
    none_by none = least_none test (drop u (take w entries)) (λ k entry is passes. let at = between-told k entry is in none (u + k) entry (omega arith) at.0 at.1 passes)

    -- one of them passes it, and none that passes it is before that one
    pub some_by : (place : ℕ) (found : Obs) → u ≤ place → place < w → slice_get entries place ≡ Some found → test found ≡ true
        → ((other : ℕ) (entry : Obs) → u ≤ other → other < w → slice_get entries other ≡ Some entry → test entry ≡ true → day_of_entry found ≤ℤ day_of_entry entry) → least_by test entries u w ≡ Some (day_of_entry found)
    unfolding least_by
    some_by place found from below is passes each =
        least_some test (drop u (take w entries)) (place - u) found (between-there place found from below is) passes
        (λ k entry is passes. let at = between-told k entry is in each (u + k) entry (omega arith) at.0 at.1 passes)

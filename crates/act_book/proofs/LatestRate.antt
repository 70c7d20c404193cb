-- The latest rate of a code, as it is found entry by entry and part by part.
use Rattle.std.proofs.Common.{◌≡◌, ℕ, ◌+◌, ◌<◌, ◌&&◌, ◌==◌, Bool, true, false, ℤ, int_cmp, is_le, List, [], ◌∷◌, ◌++◌, length, get_or, take, drop, fold, Option, Some, None, option_map, refl, sym, ap, subst, ◌∙◌, arith}
use Rattle.std.proofs.lemmas.Bool.Decides.{nat_tests}
use Rattle.std.proofs.lemmas.Int.{ints}
use Rattle.std.proofs.lemmas.List.{append-nil, append_assoc, take-append-drop, take_more}
use Rattle.std.proofs.lemmas.List.Sums.{fold-append}
use Rattle.std.specs.Prelude.{int_lt}
use Rattle.act_model.specs.declared.observed.Obs.{Obs}
use Rattle.act_model.specs.declared.observed.Obs.TheVariants.{Rate}
use Rattle.act_model.specs.Latest.{later}
use Rattle.act_model.specs.Observed.{observation, rate_until, rates_until}
use Rattle.act_model.proofs.LatestRates.{IsLatestOf, latest_is, latest_next}
use Rattle.act_book.specs.Rates.{latest_rate}

module _ (code : ℕ) (t : ℤ) where
  -- the latest rate, entry by entry
  abbrev pub walk : Option (ℤ × ℤ) → List Obs → Option (ℤ × ℤ)
  walk found entries = fold (λ latest entry. later latest (rate_until code t entry)) found entries

  walk_is : (front entries : List Obs) (found : Option (ℤ × ℤ)) → IsLatestOf (rates_until front code t) found → IsLatestOf (rates_until (front ++ entries) code t) (walk found entries)
  walk_is front [] found h = rw append-nil h
  walk_is front (entry ∷ entries) found h =
      subst (λ all. IsLatestOf (rates_until all code t) (walk (later found (rate_until code t entry)) entries)) (append_assoc front (entry ∷ []) entries)
      (walk_is (front ++ entry ∷ []) entries (later found (rate_until code t entry)) (latest_next front entry code t found h))

  pub latest_by_walk : (entries : List Obs) → IsLatestOf (rates_until entries code t) (walk None entries)
  latest_by_walk entries = walk_is [] entries None refl

  latest_of : (entries : List Obs) (found : Option (ℤ × ℤ)) → IsLatestOf (rates_until entries code t) found → latest_rate entries code t ≡ found
  unfolding latest_rate
  latest_of entries None h = rw h refl
  latest_of entries (Some found) h = rw h.0 (rw h.1 refl)

  pub walked : (entries : List Obs) → latest_rate entries code t ≡ walk None entries
  walked entries = latest_of entries (walk None entries) (latest_by_walk entries)

  pub observed_latest : (entries : List Obs) → observation entries code t ≡ option_map (λ rate. rate.1) (latest_rate entries code t)
  observed_latest entries =
      latest_is entries code t (walk None entries) (latest_by_walk entries) ∙ ap (option_map (λ rate. rate.1)) (sym (walked entries))

  -- one entry more
  pub latest_push : (entries : List Obs) (entry : Obs) → latest_rate (entries ++ entry ∷ []) code t ≡ later (latest_rate entries code t) (rate_until code t entry)
  latest_push entries entry =
      rw (walked (entries ++ entry ∷ []), walked entries) (fold-append (λ latest entry. later latest (rate_until code t entry)) None entries (entry ∷ []))

  -- ---- two parts

  by_days : (a b c : ℤ × ℤ) (s u : Bool) → int_lt b.0 a.0 ≡ s → int_lt c.0 b.0 ≡ u → later (later (Some a) (Some b)) (Some c) ≡ later (Some a) (later (Some b) (Some c))
  by_days a b c s u e f = grind (arith, ints)

  pub later_assoc : (a b c : Option (ℤ × ℤ)) → later (later a b) c ≡ later a (later b c)
  later_assoc a b None = refl
  later_assoc a None (Some c) = refl
  later_assoc None (Some b) (Some c) = refl
  later_assoc (Some a) (Some b) (Some c) = by_days a b c (int_lt b.0 a.0) (int_lt c.0 b.0) refl refl

  later_none : (a : Option (ℤ × ℤ)) → later None a ≡ a
  later_none None = refl
  later_none (Some a) = refl

  walk_from : (found : Option (ℤ × ℤ)) (entries : List Obs) → walk found entries ≡ later found (walk None entries)
  walk_from found [] = refl
  walk_from found (entry ∷ entries) =
      let r = rate_until code t entry in
      walk_from (later found r) entries ∙ later_assoc found r (walk None entries)
      ∙ ap (later found) (ap (λ first. later first (walk None entries)) (sym (later_none r)) ∙ sym (walk_from (later None r) entries))

  pub latest_joined : (front back : List Obs) → latest_rate (front ++ back) code t ≡ later (latest_rate front code t) (latest_rate back code t)
  latest_joined front back =
      rw (walked (front ++ back), walked front, walked back) (fold-append (λ latest entry. later latest (rate_until code t entry)) None front back ∙ walk_from (walk None front) back)

  -- the first rate, and those behind it
  pub latest_behind : (entries : List Obs) (i : ℕ) (entry : Obs) → i < length entries → entry ≡ get_or entries i entry → latest_rate (take i entries) code t ≡ None → latest_rate entries code t ≡ later (rate_until code t entry) (latest_rate (drop (i + 1) entries) code t)
  latest_behind entries i entry within is none =
      ap (λ all. latest_rate all code t) (sym (take-append-drop (i + 1) entries) ∙ ap (λ front. front ++ drop (i + 1) entries) (take_more entries i entry within))
      ∙ latest_joined (take i entries ++ get_or entries i entry ∷ []) (drop (i + 1) entries)
      ∙ ap (λ first. later first (latest_rate (drop (i + 1) entries) code t))
      (latest_push (take i entries) (get_or entries i entry) ∙ ap (λ front. later front (rate_until code t (get_or entries i entry))) none ∙ later_none (rate_until code t (get_or entries i entry)) ∙ ap (rate_until code t) (sym is))

-- an entry that is a rate
module _ (code : ℕ) (t : ℤ) (entry : Obs) (of : ℕ) (day value : ℤ) (is : entry ≡ Rate of day value) where
  pub rate_first : ((of == code) && is_le (int_cmp day t)) ≡ true → rate_until code t entry ≡ Some (day, value)
  rate_first test = rw is (grind (arith, nat_tests, ints))

  pub rate_none : ((of == code) && is_le (int_cmp day t)) ≡ false → rate_until code t entry ≡ None
  rate_none test = rw is (grind (arith, nat_tests, ints))

  -- behind another rate, which it follows unless its day is before
  module _ (last value_of_last : ℤ) where
    pub rate_taken : (((of == code) && is_le (int_cmp day t)) && is_le (int_cmp last day)) ≡ true → later (Some (last, value_of_last)) (rate_until code t entry) ≡ Some (day, value)
    rate_taken test = rw is (grind (arith, nat_tests, ints))

    pub rate_left : (((of == code) && is_le (int_cmp day t)) && is_le (int_cmp last day)) ≡ false → later (Some (last, value_of_last)) (rate_until code t entry) ≡ Some (last, value_of_last)
    rate_left test = rw is (grind (arith, nat_tests, ints))

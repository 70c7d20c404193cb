-- The places of names, in their texts and once one more is there.
use Rattle.std.proofs.Common.{◌≡◌, ℕ, ◌+◌, ◌<◌, ◌≤◌, Bool, true, false, not, cond, if◌then◌else◌, List, [], ◌∷◌, ◌++◌, length, get_or, map, Option, Some, None, is_some, unwrap_or, inl, inr, refl, sym, ap, ◌∙◌, arith}
use Rattle.std.proofs.Math.Seq.{get_or-append_seam}
use Rattle.std.proofs.lemmas.Bool.{cases_lt, lt-ltb}
use Rattle.std.proofs.lemmas.Bool.Decides.{nat_tests}
use Rattle.std.proofs.lemmas.List.{get_or_append_left, length-append, length-map}
use Rattle.std.proofs.lemmas.List.Quantifiers.{position-Some}
use Rattle.std.proofs.lemmas.List.Sums.{fails_before_first, position_or_len_is}
use Rattle.std.proofs.lemmas.Option.{get_or_from_slice_get, slice_get-get_or, slice_get-map, slice_get_within}
use Rattle.std.proofs.lemmas.Slice.Eq.{bytes_eq-Decides}
use Rattle.std.specs.List.{AllZip, position, position_or_len, slice_get}
use Rattle.std.specs.Map.{lookup}
use Rattle.std.specs.Str.{bytes_eq}
use Rattle.act_model.specs.Limits.{most_names}
use Rattle.act_model.specs.Name.{is_name}
use Rattle.act_model.specs.Names.{AreNames, number_of, place_of, with_name}

-- ---- the first place that passes a test

or_len-map : {X Y : Type 0} (p : Y → Bool) (f : X → Y) (xs : List X) → position_or_len p (map f xs) ≡ position_or_len (λ x. p (f x)) xs
or_len-map p f [] = refl
or_len-map p f (x ∷ xs) = ap (λ n. cond (not (p (f x))) (1 + n) 0) (or_len-map p f xs)

position-map : {X Y : Type 0} (p : Y → Bool) (f : X → Y) (xs : List X) → position p (map f xs) ≡ position (λ x. p (f x)) xs
position-map p f xs = rw (or_len-map p f xs, length-map xs f) refl

none_passes : {X : Type 0} (p : X → Bool) (xs : List X) → position p xs ≡ None → length xs ≤ position_or_len p xs
none_passes p xs e = grind (arith, nat_tests)

fails_everywhere : {X : Type 0} (p : X → Bool) (xs : List X) → position p xs ≡ None → (k : ℕ) (d : X) → k < length xs → p (get_or xs k d) ≡ false
fails_everywhere p xs e k d within =
    let all = none_passes p xs e in fails_before_first p xs k d (omega arith)

first_is : {X : Type 0} (p : X → Bool) (xs : List X) (i : ℕ) (d : X) → i < length xs → p (get_or xs i d) ≡ true → ((k : ℕ) → k < i → p (get_or xs k d) ≡ false) → position p xs ≡ Some i
first_is p xs i d within passes before =
    rw (position_or_len_is p xs i d (omega arith) before (λ _. passes), lt-ltb i (length xs) within) refl

module _ {X : Type 0} (p : X → Bool) (xs : List X) (x : X) (none : position p xs ≡ None) (fails : p x ≡ false) where
  none_more_by : (found : Option ℕ) → position p (xs ++ x ∷ []) ≡ found → found ≡ None
  none_more_by None e = refl
  none_more_by (Some k) e =
      let here = position-Some p (xs ++ x ∷ []) k x e in
      elim (cases_lt k (length xs)) [
        | inl below ↦
            let no : p (get_or (xs ++ x ∷ []) k x) ≡ false = rw (get_or_append_left xs (x ∷ []) x k below) (fails_everywhere p xs none k x below) in
            let yes : p (get_or (xs ++ x ∷ []) k x) ≡ true = here.1 in absurd (cc)
        | inr above ↦
            let within = here.0 in
            let end : k ≡ length xs = omega (arith, length-append xs (x ∷ [])) in
            let no : p (get_or (xs ++ x ∷ []) k x) ≡ false = rw (end, get_or-append_seam xs x [] x) fails in
            let yes : p (get_or (xs ++ x ∷ []) k x) ≡ true = here.1 in absurd (cc)
      ]

  none_more : position p (xs ++ x ∷ []) ≡ None
  none_more = none_more_by (position p (xs ++ x ∷ [])) refl

-- ---- the texts of a set

-- copies of texts have their bytes
pub same_texts : {X Y : Type 0} (bytes : X → Y) (texts copies : List X) → AllZip (λ text copy. bytes copy ≡ bytes text) texts copies → map bytes copies ≡ map bytes texts
same_texts bytes [] [] same = refl
same_texts bytes [] (copy ∷ copies) same = absurd same
same_texts bytes (text ∷ texts) [] same = absurd same
same_texts bytes (text ∷ texts) (copy ∷ copies) same = rw same.0 (ap (λ more. bytes text ∷ more) (same_texts bytes texts copies same.1))

-- and what stands at texts of a map stands at their copies
pub same_numbers : {K X : Type 0} (bytes : K → List ℕ) (D : X → X → Type 0) → ((x y : X) → D x y → y ≡ x) → (test : List ℕ → Bool) → (entries copies : List (K × X)) → AllZip (λ p q. (bytes q.0 ≡ bytes p.0) × D p.1 q.1) entries copies → lookup (λ k. test (bytes k)) copies ≡ lookup (λ k. test (bytes k)) entries
same_numbers bytes D values test [] [] same = refl
same_numbers bytes D values test [] (copy ∷ copies) same = absurd same
same_numbers bytes D values test (entry ∷ entries) [] same = absurd same
same_numbers bytes D values test (entry ∷ entries) (copy ∷ copies) same =
    rw (same.0.0, values entry.1 copy.1 same.0.1) (ap (λ more. cond (test (bytes entry.0)) (Some entry.1) more) (same_numbers bytes D values test entries copies same.1))

module _ {X : Type 0} (bytes : X → List ℕ) (texts : List X) where
  pub place_among : (name : List ℕ) → place_of name (map bytes texts) ≡ position (λ x. bytes_eq name (bytes x)) texts
  place_among name = position-map (bytes_eq name) bytes texts

  pub text_at : (k : ℕ) (text : X) (name : List ℕ) → slice_get texts k ≡ Some text → name ≡ bytes text → slice_get (map bytes texts) k ≡ Some name
  text_at k text name at same = slice_get-map bytes texts k ∙ rw (at, same) refl

-- ---- one name more

same_text : (text : List ℕ) → bytes_eq text text ≡ true
same_text text = (bytes_eq-Decides text text).1 refl

module _ (names : List (List ℕ)) (name : List ℕ) (absent : place_of name names ≡ None) where
  earlier : (place : ℕ) (other : List ℕ) → place_of other names ≡ Some place → place_of other (names ++ name ∷ []) ≡ Some place
  earlier place other found =
      let p = position-Some (bytes_eq other) names place other found in
      first_is (bytes_eq other) (names ++ name ∷ []) place other (omega (arith, length-append names (name ∷ [])))
      (rw (get_or_append_left names (name ∷ []) other place p.0) p.1)
      (λ k below. rw (get_or_append_left names (name ∷ []) other k (omega arith)) (p.2 k below))

  latest : place_of name (names ++ name ∷ []) ≡ Some (length names)
  latest =
      first_is (bytes_eq name) (names ++ name ∷ []) (length names) name (omega (arith, length-append names (name ∷ [])))
      (rw get_or-append_seam (same_text name))
      (λ k below. rw (get_or_append_left names (name ∷ []) name k below) (fails_everywhere (bytes_eq name) names absent k name below))

  apart : (other : List ℕ) → bytes_eq name other ≡ false → (b : Bool) → bytes_eq other name ≡ b → b ≡ false
  apart other differs false e = refl
  apart other differs true e =
      let same : other ≡ name = (bytes_eq-Decides other name).0 e in
      let one : bytes_eq name other ≡ true = rw same (same_text name) in absurd (cc)

  -- where a name stands in the longer list
  place_by : (other : List ℕ) (same : Bool) → bytes_eq name other ≡ same → (found : Option ℕ) → place_of other names ≡ found → place_of other (names ++ name ∷ []) ≡ cond same (Some (length names)) found
  place_by other true e found is = rw (← (bytes_eq-Decides name other).0 e) latest
  place_by other false e (Some k) is = earlier k other is
  place_by other false e None is = none_more (bytes_eq other) names name is (apart other e (bytes_eq other name) refl)

  pub place_more : (other : List ℕ) → place_of other (names ++ name ∷ []) ≡ cond (bytes_eq name other) (Some (length names)) (place_of other names)
  place_more other = place_by other (bytes_eq name other) refl (place_of other names) refl

  -- each name of the longer list is an earlier one or the latest
  by_place : (P : ℕ → List ℕ → Type 0) → ((place : ℕ) (other : List ℕ) → slice_get names place ≡ Some other → P place other) → P (length names) name → (place : ℕ) (other : List ℕ) → slice_get (names ++ name ∷ []) place ≡ Some other → P place other
  by_place P front last place other at =
      let within = slice_get_within (names ++ name ∷ []) place other at in
      let here = get_or_from_slice_get (names ++ name ∷ []) place other other at in
      elim (cases_lt place (length names)) [
        | inl below ↦ front place other (slice_get-get_or names place other below ∙ ap Some (sym (get_or_append_left names (name ∷ []) other place below) ∙ here))
        | inr above ↦
            let end : place ≡ length names = omega (arith, length-append names (name ∷ [])) in
            let same : name ≡ other = sym (get_or-append_seam names name [] other) ∙ ap (λ k. get_or (names ++ name ∷ []) k other) (sym end) ∙ here in
            rw (end, ← same) last
      ]

  pub more_names : AreNames names → is_name name ≡ true → length names < most_names → AreNames (names ++ name ∷ [])
  more_names before is_one fewer = record {
    named = by_place (λ place other. is_name other ≡ true) before.named is_one;
    numbered = by_place (λ place other. place_of other (names ++ name ∷ []) ≡ Some place) (λ place other at. earlier place other (before.numbered place other at)) latest;
    few = omega (arith, length-append names (name ∷ []));
  }

-- ---- places and numbers

module _ (name : List ℕ) (names : List (List ℕ)) where
  pub place_below : (place : ℕ) → place_of name names ≡ Some place → place < length names
  place_below place e = (position-Some (bytes_eq name) names place name e).0

  number_by : (found : Option ℕ) → place_of name names ≡ found → unwrap_or found (length names) < length (if is_some found then names else names ++ name ∷ [])
  number_by None e = omega (arith, length-append names (name ∷ []))
  number_by (Some place) e = place_below place e

  -- the number of a name is one of those with it
  pub number_below : number_of name names < length (with_name name names)
  number_below = number_by (place_of name names) refl

  fewer_by : (known : Bool) → length names ≤ length (if known then names else names ++ name ∷ [])
  fewer_by true = omega arith
  fewer_by false = omega (arith, length-append names (name ∷ []))

  -- and there are no fewer
  pub no_fewer : length names ≤ length (with_name name names)
  no_fewer = fewer_by (is_some (place_of name names))

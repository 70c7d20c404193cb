-- What is reached, when what is marked is kept once.
use Rattle.std.proofs.Common.{◌≡◌, ℕ, zero, suc, ◌+◌, ◌<◌, ◌⊎◌, ◌==◌, Bool, true, false, replicate, List, [], ◌∷◌, ◌++◌, length, get_or, take, slice_set, append_assoc, inl, inr, refl, sym, ap, subst, ◌∙◌, arith}
use Rattle.std.proofs.lemmas.Bool.{eqb-false, eqb-true}
use Rattle.std.proofs.lemmas.Grind.{flat_map-append}
use Rattle.std.proofs.lemmas.List.{append-nil, get_or-set_other, take_more}
use Rattle.std.specs.List.{Contains, flat_map}
use Rattle.act_profile.specs.Reads.{ascending}
use Rattle.act_cones.specs.Cones.{AreSeen, HaveSame}
use Rattle.act_cones.proofs.Ascending.{contains-from_in, in-from_contains, same_ascending}
use Rattle.act_cones.proofs.Coned.{append_in, in_append}

has-first : (c : ℕ) (xs ys : List ℕ) → Contains xs c → Contains (xs ++ ys) c
has-first c xs ys is = contains-from_in (xs ++ ys) c (append_in c xs ys (inl (in-from_contains xs c is)))

has-behind : (c : ℕ) (xs ys : List ℕ) → Contains ys c → Contains (xs ++ ys) c
has-behind c xs ys is = contains-from_in (xs ++ ys) c (append_in c xs ys (inr (in-from_contains ys c is)))

-- what is in one of two lists that are joined
has-either : (c : ℕ) (xs ys : List ℕ) → Contains (xs ++ ys) c → Contains xs c ⊎ Contains ys c
has-either c xs ys is = elim (in_append c xs ys (in-from_contains (xs ++ ys) c is)) [ inl first ↦ inl (contains-from_in xs c first) | inr second ↦ inr (contains-from_in ys c second) ]

-- what is in a list of one
has-one : (c x : ℕ) → Contains (x ∷ []) c → x ≡ c
has-one c x is = elim (in-from_contains (x ∷ []) c is) [ inl same ↦ same | inr none ↦ absurd none ]

one-has : (x : ℕ) → Contains (x ∷ []) x
one-has x = (0, omega arith, refl)

pub same-refl : (xs : List ℕ) → HaveSame xs xs
same-refl xs = record { to = λ c is. is; from = λ c is. is }

pub same-none : (xs : List ℕ) → HaveSame xs (xs ++ [])
same-none xs = rw append-nil (same-refl xs)

pub same-trans : (xs ys zs : List ℕ) → HaveSame xs ys → HaveSame ys zs → HaveSame xs zs
same-trans xs ys zs first second = record { to = λ c is. second.to c (first.to c is); from = λ c is. first.from c (second.from c is) }

-- the same with the same behind it
pub same-behind : (xs ys more : List ℕ) → HaveSame xs ys → HaveSame (xs ++ more) (ys ++ more)
same-behind xs ys more same = record {
  to = λ c is. elim (has-either c xs more is) [ inl first ↦ has-first c ys more (same.to c first) | inr second ↦ has-behind c ys more second ];
  from = λ c is. elim (has-either c ys more is) [ inl first ↦ has-first c xs more (same.from c first) | inr second ↦ has-behind c xs more second ];
}

module _ (before cone reached : List ℕ) (j : ℕ) (within : j < length cone) (same : HaveSame reached (before ++ take j cone)) where
  next : before ++ take (j + 1) cone ≡ (before ++ take j cone) ++ get_or cone j 0 ∷ []
  next = ap (λ l. before ++ l) (take_more cone j 0 within) ∙ sym (append_assoc before (take j cone) (get_or cone j 0 ∷ []))

  -- one more, which is put behind the others
  pub reach-put : HaveSame (reached ++ get_or cone j 0 ∷ []) (before ++ take (j + 1) cone)
  reach-put = rw next (same-behind reached (before ++ take j cone) (get_or cone j 0 ∷ []) same)

  -- one more, which is there
  pub reach-skip : Contains reached (get_or cone j 0) → HaveSame reached (before ++ take (j + 1) cone)
  reach-skip there = rw next (record {
    to = λ c is. has-first c (before ++ take j cone) (get_or cone j 0 ∷ []) (same.to c is);
    from = λ c is. elim (has-either c (before ++ take j cone) (get_or cone j 0 ∷ []) is) [
      | inl first ↦ same.from c first
      | inr second ↦ subst (Contains reached) (has-one c (get_or cone j 0) second) there
    ];
  })

-- with one more behind the list, those that are marked are in it
pub seen-put : (seen : List Bool) (reached : List ℕ) (x : ℕ) → AreSeen seen reached → AreSeen seen (reached ++ x ∷ [])
seen-put seen reached x are = λ c is. has-first c reached (x ∷ []) (are c is)

-- it may be marked
pub seen-mark : (seen : List Bool) (reached : List ℕ) (x : ℕ) → x < length seen → AreSeen seen reached → AreSeen (slice_set seen x true) (reached ++ x ∷ [])
seen-mark seen reached x within are = λ c is. by c is (c == x) refl
  where
    by : (c : ℕ) → get_or (slice_set seen x true) c false ≡ true → (b : Bool) → (c == x) ≡ b → Contains (reached ++ x ∷ []) c
    by c is true at = subst (Contains (reached ++ x ∷ [])) (sym (eqb-true c x at)) (has-behind x reached (x ∷ []) (one-has x))
    by c is false at = has-first c reached (x ∷ []) (are c (sym (get_or-set_other seen x c true false (eqb-false c x at)) ∙ is))

unmarked : (count c : ℕ) → get_or (replicate count false) c false ≡ false
unmarked zero c = refl
unmarked (suc count) zero = refl
unmarked (suc count) (suc c) = unmarked count c

-- none is marked
pub seen-none : (count : ℕ) (reached : List ℕ) → AreSeen (replicate count false) reached
seen-none count reached = λ c is. absurd (let no = unmarked count c in cc)

module _ (each : ℕ → List ℕ) (c : ℕ) (children reached after : List ℕ) (i : ℕ) (within : i < length children) where
  -- the cone of one more child was reached
  pub child-reached : HaveSame reached (c ∷ flat_map each (take i children)) → HaveSame after (reached ++ each (get_or children i 0)) → HaveSame after (c ∷ flat_map each (take (i + 1) children))
  child-reached same more =
      let cone = each (get_or children i 0) in
      let is : c ∷ flat_map each (take (i + 1) children) ≡ (c ∷ flat_map each (take i children)) ++ (cone ++ []) =
      ap (λ l. c ∷ l) (ap (flat_map each) (take_more children i 0 within) ∙ flat_map-append each (take i children) (get_or children i 0 ∷ [])) in
      rw is (same-trans after (reached ++ cone) ((c ∷ flat_map each (take i children)) ++ (cone ++ [])) more
      (subst (λ l. HaveSame (reached ++ cone) ((c ∷ flat_map each (take i children)) ++ l)) (sym (append-nil cone)) (same-behind reached (c ∷ flat_map each (take i children)) cone same)))

-- lists of the same numbers are the same when they are ascending
pub same-ascending : (xs ys : List ℕ) → HaveSame xs ys → ascending xs ≡ ascending ys
same-ascending xs ys same = same_ascending xs ys
    (λ c is. in-from_contains ys c (same.to c (contains-from_in xs c is)))
    (λ c is. in-from_contains xs c (same.from c (contains-from_in ys c is)))

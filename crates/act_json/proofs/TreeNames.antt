-- The names of a tree's object, in byte order and each once, from its members as they stand.
use Rattle.std.proofs.Common.{◌≡◌, ℕ, Bool, true, false, cond, if◌then◌else◌, List, [], ◌∷◌, Ordering, Less, Equal, Greater, is_eq, refl, sym, ap, ◌∙◌}
use Rattle.std.proofs.lemmas.Cmp.{nat_list_cmp_total}
use Rattle.std.proofs.lemmas.Map.Text.{is_eq-slice_cmp}
use Rattle.std.proofs.lemmas.Slice.Eq.{bytes_eq-Decides}
use Rattle.std.specs.Prelude.{⊤}
use Rattle.std.specs.List.{filter}
use Rattle.std.specs.Cmp.Lexicographic.{slice_cmp}
use Rattle.std.specs.Ordering.{nat_cmp, match_ordering, ordering_reverse}
use Rattle.json.specs.Json as json
use Rattle.serde_json.specs.Data.{Data, Members, no_members, member, put}
use Rattle.act_json.specs.Tree.{data_of, put_members}

-- ---- names in byte order

-- names in byte order, each once, with one more
abbrev pub with_name : List ℕ → List (List ℕ) → List (List ℕ)
with_name name [] = name ∷ []
with_name name (first ∷ names) =
    match_ordering (slice_cmp nat_cmp name first) (name ∷ first ∷ names) (first ∷ names) (first ∷ with_name name names)

-- such names with those of members that pass a test, one after another
abbrev pub with_names : (List ℕ → Bool) → json.Members → List (List ℕ) → List (List ℕ)
with_names test json.no_members names = names
with_names test (json.member name value members) names =
    with_names test members (if test name then with_name name names else names)

-- ---- members in byte order

-- a name is below those of the members
abbrev IsBelow : List ℕ → Members → Type 0
IsBelow name no_members = ⊤
IsBelow name (member other value members) = (slice_cmp nat_cmp name other ≡ Less) × IsBelow name members

abbrev AreOrdered : Members → Type 0
AreOrdered no_members = ⊤
AreOrdered (member name value members) = IsBelow name members × AreOrdered members

below-below : (low name : List ℕ) (members : Members) → slice_cmp nat_cmp low name ≡ Less → IsBelow name members → IsBelow low members
below-below low name no_members less below = tt
below-below low name (member other value members) less below = (nat_list_cmp_total.trans low name other less below.0, below-below low name members less below.1)

below-either : (low : List ℕ) (o : Ordering) (a b c : Members) → IsBelow low a → IsBelow low b → IsBelow low c → IsBelow low (match_ordering o a b c)
below-either low Less a b c x y z = x
below-either low Equal a b c x y z = y
below-either low Greater a b c x y z = z

below-put : (low name : List ℕ) (d : Data) (members : Members) → slice_cmp nat_cmp low name ≡ Less → IsBelow low members → IsBelow low (put name d members)
below-put low name d no_members less below = (less, tt)
below-put low name d (member other value members) less below =
    below-either low (slice_cmp nat_cmp name other) _ _ _ (less, (below.0, below.1)) (below.0, below.1) (below.0, below-put low name d members less below.1)

above : (name other : List ℕ) → slice_cmp nat_cmp name other ≡ Greater → slice_cmp nat_cmp other name ≡ Less
above name other is = nat_list_cmp_total.antisymm other name ∙ ap ordering_reverse is

ordered-put_at : (o : Ordering) (name other : List ℕ) (d value : Data) (members : Members) → slice_cmp nat_cmp name other ≡ o → AreOrdered (member other value members) → AreOrdered (put name d members)
    → AreOrdered (match_ordering o (member name d (member other value members)) (member other d members) (member other value (put name d members)))
ordered-put_at Less name other d value members is ordered later = ((is, below-below name other members is ordered.0), ordered)
ordered-put_at Equal name other d value _ is ordered later = (ordered.0, ordered.1)
ordered-put_at Greater name other d value members is ordered later = (below-put other name d members (above name other is) ordered.0, later)

ordered-put : (name : List ℕ) (d : Data) (members : Members) → AreOrdered members → AreOrdered (put name d members)
ordered-put name d no_members ordered = (tt, tt)
ordered-put name d (member other value members) ordered = ordered-put_at (slice_cmp nat_cmp name other) name other d value members refl ordered (ordered-put name d members ordered.1)

-- ---- a name among those that pass a test

first_at : (b : Bool) (name other : List ℕ) (rest : List (List ℕ)) → slice_cmp nat_cmp name other ≡ Less → with_name name rest ≡ name ∷ rest
    → with_name name (cond b (other ∷ rest) rest) ≡ name ∷ cond b (other ∷ rest) rest
first_at true name other rest less first = rw less refl
first_at false name other rest less first = first

equal_at : (b : Bool) (name other : List ℕ) (rest : List (List ℕ)) → slice_cmp nat_cmp name other ≡ Equal
    → cond b (other ∷ rest) rest ≡ cond b (with_name name (cond b (other ∷ rest) rest)) (cond b (other ∷ rest) rest)
equal_at true name other rest equal = rw equal refl
equal_at false name other rest equal = refl

greater_at : (a b : Bool) (name other : List ℕ) (rest : List (List ℕ)) → slice_cmp nat_cmp name other ≡ Greater
    → cond a (other ∷ cond b (with_name name rest) rest) (cond b (with_name name rest) rest) ≡ cond b (with_name name (cond a (other ∷ rest) rest)) (cond a (other ∷ rest) rest)
greater_at true true name other rest greater = rw greater refl
greater_at true false name other rest greater = refl
greater_at false true name other rest greater = refl
greater_at false false name other rest greater = refl

module _ (names_of : Members → List (List ℕ)) (none : names_of no_members ≡ []) (one : (name : List ℕ) (d : Data) (members : Members) → names_of (member name d members) ≡ name ∷ names_of members)
    (test : List ℕ → Bool) where
  abbrev kept : Members → List (List ℕ)
  kept members = filter test (names_of members)

  kept_none : kept no_members ≡ []
  kept_none = ap (filter test) none

  kept_one : (name : List ℕ) (d : Data) (members : Members) → kept (member name d members) ≡ cond (test name) (name ∷ kept members) (kept members)
  kept_one name d members = ap (filter test) (one name d members)

  -- a name below all goes first
  first_of : (name : List ℕ) (members : Members) → IsBelow name members → with_name name (kept members) ≡ name ∷ kept members
  first_of name no_members below = ap (with_name name) kept_none ∙ sym (ap (λ names. name ∷ names) kept_none)
  first_of name (member other value members) below =
      ap (with_name name) (kept_one other value members) ∙ first_at (test other) name other (kept members) below.0 (first_of name members below.1)
      ∙ sym (ap (λ names. name ∷ names) (kept_one other value members))

  kept_first : (name : List ℕ) (d : Data) (members : Members) → IsBelow name members → kept (member name d members) ≡ cond (test name) (with_name name (kept members)) (kept members)
  kept_first name d members below = kept_one name d members ∙ ap (λ names. cond (test name) names (kept members)) (sym (first_of name members below))

  kept_at : (o : Ordering) (name other : List ℕ) (d value : Data) (members : Members) → slice_cmp nat_cmp name other ≡ o → AreOrdered (member other value members)
      → kept (put name d members) ≡ cond (test name) (with_name name (kept members)) (kept members)
      → kept (match_ordering o (member name d (member other value members)) (member other d members) (member other value (put name d members)))
      ≡ cond (test name) (with_name name (kept (member other value members))) (kept (member other value members))
  kept_at Less name other d value members is ordered later = kept_first name d (member other value members) (is, below-below name other members is ordered.0)
  kept_at Equal name other d value members is ordered later =
      let same : name ≡ other = (bytes_eq-Decides name other).0 (sym (is_eq-slice_cmp name other) ∙ ap is_eq is) in
      let all = kept_one other value members in
      kept_one other d members ∙ equal_at (test other) name other (kept members) is
      ∙ ap (λ names. cond (test other) (with_name name names) names) (sym all) ∙ ap (λ b. cond b (with_name name (kept (member other value members))) (kept (member other value members))) (sym (ap test same))
  kept_at Greater name other d value members is ordered later =
      kept_one other value (put name d members) ∙ ap (λ names. cond (test other) (other ∷ names) names) later ∙ greater_at (test other) (test name) name other (kept members) is
      ∙ ap (λ names. cond (test name) (with_name name names) names) (sym (kept_one other value members))

  kept-put : (name : List ℕ) (d : Data) (members : Members) → AreOrdered members → kept (put name d members) ≡ cond (test name) (with_name name (kept members)) (kept members)
  kept-put name d no_members ordered = kept_first name d no_members tt
  kept-put name d (member other value members) ordered = kept_at (slice_cmp nat_cmp name other) name other d value members refl ordered (kept-put name d members ordered.1)

  kept-all : (members : json.Members) (found : Members) → AreOrdered found → kept (put_members members found) ≡ with_names test members (kept found)
  kept-all json.no_members found ordered = refl
  kept-all (json.member name j members) found ordered =
      kept-all members (put name (data_of j) found) (ordered-put name (data_of j) found ordered) ∙ ap (with_names test members) (kept-put name (data_of j) found ordered)

  -- the names of an object that pass, from its members one by one
  pub kept_names : (members : json.Members) → filter test (names_of (put_members members no_members)) ≡ with_names test members []
  kept_names members = kept-all members no_members tt ∙ ap (with_names test members) kept_none

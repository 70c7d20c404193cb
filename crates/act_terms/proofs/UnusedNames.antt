-- The names of an object that aren't terms of its type, from its members one by one.
use Rattle.std.proofs.Common.{◌≡◌, ℕ, Bool, true, false, not, List, [], ◌∷◌, if◌then◌else◌, map, length, drop, get_or, ◌<◌, ◌≤◌, ◌+◌, Some, Bor, refl, sym, ap, ◌∙◌, arith}
use Rattle.std.specs.Ordering.{nat_cmp, match_ordering}
use Rattle.std.specs.Cmp.Lexicographic.{slice_cmp}
use Rattle.std.specs.declared.alloc.Global.{Global}
use Rattle.std.specs.declared.cmp.Ordering.{Ordering}
use Rattle.std.specs.declared.cmp.Ordering.TheVariants.{Less, Equal, Greater}
use Rattle.std.specs.BTreeSet.{insert_key}
use Rattle.std.proofs.Math.Seq.{drop-length}
use Rattle.std.proofs.lemmas.List.{drop_more}
use Rattle.json.specs.Value.{members_view, value_view}
use Rattle.json.specs.declared.value.Value.{Value}
use Rattle.serde_json.specs.Data.{Data}
use Rattle.act_json.proofs.TreeNames.{kept_names, with_name, with_names}
use Rattle.act_json.specs.Tree.{Listed, object_in}
use Rattle.act_model.specs.declared.choice.ContractType.{ContractType}
use Rattle.act_terms.specs.Used.{is_term_of, member_names, unused_names}

-- ---- a set of names

abbrev pub texts : List (Bor (List ℕ)) → List (List ℕ)
texts names = map (λ n. n.now) names

placed : (o : Ordering) (k x : Bor (List ℕ)) (xs more : List (Bor (List ℕ))) → texts more ≡ with_name k.now (texts xs)
    → texts (match_ordering o (k ∷ x ∷ xs) (x ∷ xs) (x ∷ more)) ≡ match_ordering o (k.now ∷ x.now ∷ texts xs) (x.now ∷ texts xs) (x.now ∷ with_name k.now (texts xs))
placed Less k x xs more is = refl
placed Equal k x xs more is = refl
placed Greater k x xs more is = ap (λ names. x.now ∷ names) is

-- a name that is put into the set
pub put_in : (names : List (Bor (List ℕ))) (k : Bor (List ℕ)) → texts (insert_key (λ a b. slice_cmp nat_cmp a.now b.now) names k) ≡ with_name k.now (texts names)
put_in [] k = refl
put_in (x ∷ xs) k = placed (slice_cmp nat_cmp k.now x.now) k x xs _ (put_in xs k)

-- ---- one member after another

-- a name isn't a term of that type
abbrev pub is_unused : ContractType → List ℕ → Bool
is_unused type name = not (is_term_of type name)

-- the names of the first members that aren't terms are found, and the members from a place on are left
pub record IsFoundTo (type : ContractType) (members : Listed) (place : ℕ) (found : List (List ℕ)) : Type 0 where
  pub is : with_names (is_unused type) (members_view (drop place members)) found ≡ with_names (is_unused type) (members_view members) []

pub none_found : (type : ContractType) (members : Listed) → IsFoundTo type members 0 []
none_found type members = record { is = refl }

next_of : (type : ContractType) (members : Listed) (place : ℕ) (found : List (List ℕ)) (m : Bor (List ℕ) × Value Global) → place < length members → m ≡ get_or members place m
    → with_names (is_unused type) (members_view (drop place members)) found
    ≡ with_names (is_unused type) (members_view (drop (place + 1) members)) (if is_unused type m.0.now then with_name m.0.now found else found)
next_of type members place found m within is =
    ap (λ ms. with_names (is_unused type) (members_view ms) found) (drop_more members place m within ∙ ap (λ first. first ∷ drop (place + 1) members) (sym is))

-- a name that is a term is passed over
pub term_passed : (type : ContractType) (members : Listed) (place : ℕ) (found : List (List ℕ)) (m : Bor (List ℕ) × Value Global) → place < length members → m ≡ get_or members place m
    → is_term_of type m.0.now ≡ true → IsFoundTo type members place found → IsFoundTo type members (place + 1) found
term_passed type members place found m within is term so_far = record {
  is = ap (λ b. with_names (is_unused type) (members_view (drop (place + 1) members)) (if not b then with_name m.0.now found else found)) (sym term) ∙ sym (next_of type members place found m within is) ∙ so_far.is;
}

-- another is put in
pub name_found : (type : ContractType) (members : Listed) (place : ℕ) (found : List (List ℕ)) (m : Bor (List ℕ) × Value Global) → place < length members → m ≡ get_or members place m
    → is_term_of type m.0.now ≡ false → IsFoundTo type members place found → IsFoundTo type members (place + 1) (with_name m.0.now found)
name_found type members place found m within is term so_far = record {
  is = ap (λ b. with_names (is_unused type) (members_view (drop (place + 1) members)) (if not b then with_name m.0.now found else found)) (sym term) ∙ sym (next_of type members place found m within is) ∙ so_far.is;
}

-- all of them, once no member is left
pub all_found : (type : ContractType) (members : Listed) (place : ℕ) (found : List (List ℕ)) → place ≤ length members → length members ≤ place → IsFoundTo type members place found
    → found ≡ unused_names type (object_in members)
unfolding unused_names
all_found type members place found within over so_far =
    let end : length members ≡ place = omega arith in
    ap (λ ms. with_names (is_unused type) (members_view ms) found) (sym (drop-length members) ∙ ap (λ n. drop n members) end) ∙ so_far.is
    ∙ sym (kept_names member_names refl (λ name d ms. refl) (is_unused type) (members_view members))

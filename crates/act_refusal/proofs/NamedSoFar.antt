-- The names of contracts, gone through one by one.
use Rattle.std.proofs.Common.{◌≡◌, ℕ, ◌+◌, true, List, [], ◌∷◌, ◌++◌, length, Some, None, is_some, refl, ap, sym, ◌∙◌, append_assoc, append-nil, length-append, arith}
use Rattle.act_model.specs.Names.{place_of}
use Rattle.act_refusal.specs.Steps.{first_repeated}

-- no name is repeated up to a place; those before it and those left from there on are all
pub record IsNamedTo (ids left before : List (List ℕ)) (i : ℕ) : Type 0 where
  pub all : before ++ left ≡ ids
  pub first : first_repeated [] ids ≡ first_repeated before left
  pub count : length before ≡ i

pub none_named : (ids : List (List ℕ)) → IsNamedTo ids ids [] 0
none_named ids = record { all = refl; first = refl; count = refl }

goes_on : (before more : List (List ℕ)) (id : List ℕ) → place_of id before ≡ None → first_repeated before (id ∷ more) ≡ first_repeated (before ++ id ∷ []) more
unfolding first_repeated
goes_on before more id absent = rw absent refl

pub one_named : (ids left more before : List (List ℕ)) (i : ℕ) (id : List ℕ) → IsNamedTo ids left before i → left ≡ id ∷ more → place_of id before ≡ None → IsNamedTo ids more (before ++ id ∷ []) (i + 1)
one_named ids left more before i id so_far here absent = record {
  all = append_assoc before (id ∷ []) more ∙ ap (λ l. before ++ l) (sym here) ∙ so_far.all;
  first = so_far.first ∙ ap (first_repeated before) here ∙ goes_on before more id absent;
  count = let count = so_far.count in omega (arith, length-append before (id ∷ []));
}

stops : (before more : List (List ℕ)) (id : List ℕ) → is_some (place_of id before) ≡ true → first_repeated before (id ∷ more) ≡ Some (length before)
unfolding first_repeated
stops before more id there = rw there refl

pub one_repeated : (ids left more before : List (List ℕ)) (i : ℕ) (id : List ℕ) → IsNamedTo ids left before i → left ≡ id ∷ more → is_some (place_of id before) ≡ true → first_repeated [] ids ≡ Some i
one_repeated ids left more before i id so_far here there =
    so_far.first ∙ ap (first_repeated before) here ∙ stops before more id there ∙ ap Some so_far.count

none_more : (before : List (List ℕ)) → first_repeated before [] ≡ None
unfolding first_repeated
none_more before = refl

pub none_repeated : (ids left before : List (List ℕ)) (i : ℕ) → IsNamedTo ids left before i → left ≡ [] → first_repeated [] ids ≡ None
none_repeated ids left before i so_far none = so_far.first ∙ ap (first_repeated before) none ∙ none_more before

pub all_named : (ids left before : List (List ℕ)) (i : ℕ) → IsNamedTo ids left before i → left ≡ [] → before ≡ ids
all_named ids left before i so_far none = sym (ap (λ l. before ++ l) none ∙ append-nil before) ∙ so_far.all

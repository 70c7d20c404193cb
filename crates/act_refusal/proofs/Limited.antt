-- The limit on contracts, looked at one by one.
use Rattle.std.proofs.Common.{◌≡◌, ℕ, suc, ◌+◌, ◌≤◌, true, false, List, [], ◌∷◌, Some, None, nat_lt, refl, ap, ◌∙◌, add-one, arith}
use Rattle.std.proofs.lemmas.Bool.Decides.{nat_tests}
use Rattle.std.proofs.lemmas.List.Sums.{sum_by-cons}
use Rattle.act_terms.specs.Contract.{NamedTerms}
use Rattle.act_refusal.specs.Known.{count_with_shadows}
use Rattle.act_cones.specs.Counts.{counts_as}
use Rattle.act_refusal.specs.Steps.{first_past}

-- the contracts up to a place are so many, within the limit, and those from there on are left
pub record IsCountedTo (contracts left : List NamedTerms) (count i : ℕ) : Type 0 where
  pub first : first_past 0 0 contracts ≡ first_past count i left
  pub all : count + count_with_shadows left ≡ count_with_shadows contracts
  pub few : count ≤ 4096

pub none_counted : (contracts : List NamedTerms) → IsCountedTo contracts contracts 0 0
none_counted contracts = record { first = refl; all = omega arith; few = omega arith }

goes_on : (count i : ℕ) (c : NamedTerms) (more : List NamedTerms) → count + counts_as c.terms.kind ≤ 4096 → first_past count i (c ∷ more) ≡ first_past (count + counts_as c.terms.kind) (suc i) more
unfolding first_past
goes_on count i c more few =
    let within : nat_lt 4096 (count + counts_as c.terms.kind) ≡ false = grind (arith, nat_tests) in
    rw within refl

pub one_counted : (contracts left more : List NamedTerms) (count i : ℕ) (c : NamedTerms) → IsCountedTo contracts left count i → left ≡ c ∷ more → count + counts_as c.terms.kind ≤ 4096
    → IsCountedTo contracts more (count + counts_as c.terms.kind) (i + 1)
one_counted contracts left more count i c so_far here few = record {
  first = so_far.first ∙ ap (first_past count i) here ∙ goes_on count i c more few ∙ ap (λ n. first_past (count + counts_as c.terms.kind) n more) (rw add-one refl);
  all = let all = so_far.all in omega (arith, ap count_with_shadows here ∙ sum_by-cons (λ c. counts_as c.terms.kind) c more);
  few = few;
}

stops : (count i : ℕ) (c : NamedTerms) (more : List NamedTerms) → 4096 + 1 ≤ count + counts_as c.terms.kind → first_past count i (c ∷ more) ≡ Some i
unfolding first_past
stops count i c more many =
    let past : nat_lt 4096 (count + counts_as c.terms.kind) ≡ true = grind (arith, nat_tests) in
    rw past refl

pub one_past : (contracts left more : List NamedTerms) (count i : ℕ) (c : NamedTerms) → IsCountedTo contracts left count i → left ≡ c ∷ more → 4096 + 1 ≤ count + counts_as c.terms.kind → first_past 0 0 contracts ≡ Some i
one_past contracts left more count i c so_far here many = so_far.first ∙ ap (first_past count i) here ∙ stops count i c more many

none_left : (count i : ℕ) → first_past count i [] ≡ None
unfolding first_past
none_left count i = refl

pub all_within : (contracts left : List NamedTerms) (count i : ℕ) → IsCountedTo contracts left count i → left ≡ [] → first_past 0 0 contracts ≡ None
all_within contracts left count i so_far none = so_far.first ∙ ap (first_past count i) none ∙ none_left count i

pub all_are_few : (contracts left : List NamedTerms) (count i : ℕ) → IsCountedTo contracts left count i → left ≡ [] → count_with_shadows contracts ≤ 4096
all_are_few contracts left count i so_far none =
    let all = so_far.all in
    let few = so_far.few in
    let same = ap count_with_shadows none in
    omega arith

-- What contracts reach, by paths along their references.
use Rattle.std.proofs.Common.{◌≡◌, ℕ, zero, suc, inl, inr, ◌<◌, ◌⊎◌, ◌||◌, Bool, true, false, List, [], ◌∷◌, Ok, refl, sym, ap, ◌∙◌, arith, eq-eqb, ◌==◌, ◌≢◌}
use Rattle.std.specs.List.{flat_map, list_any}
use Rattle.std.proofs.lemmas.Bool.{eqb-true, cases_Bool}
use Rattle.std.proofs.lemmas.Option.{unwrap_or-slice_get}
use Rattle.std.proofs.lemmas.List.Folds.{list_any-append}
use Rattle.act_profile.specs.Reads.{cone_to, is_in}
use Rattle.act_profile.specs.Run.{Contracts}
use Rattle.act_refs.specs.Ordered.{goes_on, order_of}
use Rattle.act_refs.specs.Path.{HasPath, IsChild, children_of}
use Rattle.act_refs.proofs.Leading.{goes_on-from_path, passes, passing}
use Rattle.act_refs.proofs.Ordering.{order_of-short}
use Rattle.act_refs.proofs.Paths.{HasPath-cons, HasPath-first, HasPath-none, HasPath-nowhere, HasPath-push, IsChild-within}
use Rattle.act_history.specs.Reached.{is_reached}

-- ---- tests of lists

-- one of two
pub either : (a b : Bool) → (a || b) ≡ true → (a ≡ true) ⊎ (b ≡ true)
either true b is = inl refl
either false b is = inr is

pub left-so : (a b : Bool) → a ≡ true → (a || b) ≡ true
left-so a b is = rw is refl

pub right-so : (a b : Bool) → b ≡ true → (a || b) ≡ true
right-so true b is = refl
right-so false b is = is

-- where one of a list passes, one does
pub any-in : (p : ℕ → Bool) (xs : List ℕ) (a : ℕ) → is_in xs a ≡ true → p a ≡ true → list_any p xs ≡ true
any-in p [] a there pass = absurd (cc)
any-in p (x ∷ xs) a there pass = elim (either (x == a) (is_in xs a) there) [
  | inl here ↦ let same : x ≡ a = eqb-true x a here in left-so (p x) (list_any p xs) (rw same pass)
  | inr later ↦ right-so (p x) (list_any p xs) (any-in p xs a later pass)
]

pub in-any : (p : ℕ → Bool) (xs : List ℕ) → list_any p xs ≡ true → (a : ℕ) × (is_in xs a ≡ true) × (p a ≡ true)
in-any p [] is = absurd (cc)
in-any p (x ∷ xs) is = elim (either (p x) (list_any p xs) is) [
  | inl here ↦ (x, left-so (x == x) (is_in xs x) (eq-eqb x x refl), here)
  | inr later ↦
      let rest = in-any p xs later in
      (rest.0, right-so (x == rest.0) (is_in xs rest.0) rest.1, rest.2)
]

-- of lists behind one another
pub any-flat : (p : ℕ → Bool) (f : ℕ → List ℕ) (xs : List ℕ) → list_any p (flat_map f xs) ≡ list_any (λ x. list_any p (f x)) xs
any-flat p f [] = refl
any-flat p f (x ∷ xs) = list_any-append p (f x) (flat_map f xs) ∙ ap (λ (b : Bool). list_any p (f x) || b) (any-flat p f xs)

-- ---- cones are paths

module _ (contracts : Contracts) where
  cone-next : (m a : ℕ) → cone_to (suc m) contracts a ≡ a ∷ flat_map (cone_to m contracts) (children_of contracts.children a)
  unfolding cone_to
  cone-next m a = ap (λ (children : List ℕ). a ∷ flat_map (cone_to m contracts) children) (unwrap_or-slice_get contracts.children a [])

  in-next : (m a c : ℕ) → is_in (cone_to (suc m) contracts a) c ≡ ((a == c) || list_any (λ child. is_in (cone_to m contracts child) c) (children_of contracts.children a))
  in-next m a c = ap (λ (cone : List ℕ). is_in cone c) (cone-next m a) ∙ ap (λ (b : Bool). (a == c) || b) (any-flat (λ x. x == c) (cone_to m contracts) (children_of contracts.children a))

  in-none : (a c : ℕ) → is_in (cone_to zero contracts a) c ≡ false
  unfolding cone_to
  in-none a c = refl

  pub in-from_path : (m k a c : ℕ) → k < m → HasPath contracts.children k a c → is_in (cone_to m contracts a) c ≡ true
  in-from_path zero k a c fewer path = absurd (omega arith)
  in-from_path (suc m) zero a c fewer path =
      in-next m a c ∙ left-so (a == c) _ (eq-eqb a c (HasPath-nowhere contracts.children a c path))
  in-from_path (suc m) (suc k) a c fewer path =
      let step = HasPath-first contracts.children k a c path in
      in-next m a c ∙ right-so (a == c) _
      (passes (λ child. is_in (cone_to m contracts child) c) contracts.children a step.0 step.1 (in-from_path m k step.0 c (omega arith) step.2))

  pub path-from_in : (m a c : ℕ) → is_in (cone_to m contracts a) c ≡ true → (k : ℕ) × (k < m) × HasPath contracts.children k a c
  path-from_in zero a c is = let none = in-none a c in absurd (cc)
  path-from_in (suc m) a c is = elim (either (a == c) _ (sym (in-next m a c) ∙ is)) [
    | inl here ↦
        let same : a ≡ c = eqb-true a c here in
        (0, omega arith, rw same (HasPath-none contracts.children c))
    | inr later ↦
        let step = passing (λ child. is_in (cone_to m contracts child) c) contracts.children a later in
        let rest = path-from_in m step.0 c step.2 in
        (suc rest.0, omega (arith, rest.1), HasPath-cons contracts.children rest.0 a step.0 c step.1 rest.2)
  ]

  -- ---- what is reached

  pub reached-path : (asked : List ℕ) (k a c : ℕ) → is_in asked a ≡ true → k < 16 → HasPath contracts.children k a c → is_reached contracts asked c ≡ true
  reached-path asked k a c there few path = any-in (λ b. is_in (cone_to 16 contracts b) c) asked a there (in-from_path 16 k a c few path)

  pub path-reached : (asked : List ℕ) (c : ℕ) → is_reached contracts asked c ≡ true → (a : ℕ) × (is_in asked a ≡ true) × (k : ℕ) × (k < 16) × HasPath contracts.children k a c
  path-reached asked c is =
      let from = in-any (λ b. is_in (cone_to 16 contracts b) c) asked is in
      let path = path-from_in 16 from.0 c from.2 in
      (from.0, from.1, path.0, path.1, path.2)

  -- those asked for are
  pub reached-self : (asked : List ℕ) (a : ℕ) → is_in asked a ≡ true → is_reached contracts asked a ≡ true
  reached-self asked a there = reached-path asked 0 a a there (omega arith) (HasPath-none contracts.children a)

  -- and so are the children of those that are, since no chain is long
  pub reached-child : (order asked : List ℕ) (c child : ℕ) → order_of contracts.children ≡ Ok order → is_reached contracts asked c ≡ true → IsChild contracts.children c child → is_reached contracts asked child ≡ true
  reached-child order asked c child ordered is refers =
      let from = path-reached asked c is in
      let longer = HasPath-push contracts.children from.2 from.0 c child from.4 refers in
      let start = HasPath-first contracts.children from.2 from.0 child longer in
      let short = order_of-short contracts.children order ordered from.0 (IsChild-within contracts.children from.0 start.0 start.1) in
      reached-path asked (suc from.2) from.0 child from.1 (few from.0 from.2 child from.3 longer short) longer
    where
      not-last : (k : ℕ) → (suc k == 16) ≡ false → suc k ≢ 16
      not-last k other = λ is. let same = eq-eqb (suc k) 16 is in absurd (cc)

      few : (a k to : ℕ) → k < 16 → HasPath contracts.children (suc k) a to → goes_on contracts.children 16 a ≡ false → suc k < 16
      few a k to lt path short = elim (cases_Bool (suc k == 16)) [
        | inl last ↦
            let is : suc k ≡ 16 = eqb-true (suc k) 16 last in
            let long : goes_on contracts.children 16 a ≡ true = goes_on-from_path contracts.children 16 a to (rw is at path) in
            absurd (cc)
        | inr other ↦ omega (arith, not-last k other)
      ]

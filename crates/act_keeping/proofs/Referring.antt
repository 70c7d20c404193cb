-- Which contracts refer to one, and how often.
use Rattle.std.proofs.Common.{◌≡◌, ℕ, zero, suc, ◌+◌, ◌<◌, ◌≤◌, ◌==◌, nat_lt, cond, Bool, false, List, [], ◌∷◌, ◌++◌, length, get_or, set, inl, inr, refl, sym, ap, ◌∙◌, arith, eq-eqb}
use Rattle.std.specs.Prelude.{Vec}
use Rattle.std.specs.List.{All}
use Rattle.std.proofs.lemmas.Bool.{cases_Bool, cases_eq, cases_order, lt-ltb, ltb-true, ne_eqb}
use Rattle.std.proofs.lemmas.List.{get_or-set_other, get_or-set_same, length-set}
use Rattle.std.proofs.lemmas.List.Sums.{count_by-le-length, get_or-le-sum_by, sum_by_push}
use Rattle.std.proofs.lemmas.Option.{slice_get_cases}
use Rattle.act_refs.specs.Path.{child_lists, children_of}
use Rattle.act_refs.proofs.Paths.{children_of-read, length-child_lists}
use Rattle.act_keeping.specs.Ready.{AddsTimes, AreParents, AreParentsBelow, times}

times-push : (n : ℕ) (xs : List ℕ) (y : ℕ) → times n (xs ++ y ∷ []) ≡ times n xs + cond (y == n) 1 0
times-push n xs y = sum_by_push (λ (m : ℕ). cond {A = ℕ} (m == n) 1 0) xs y

not-less : (p n : ℕ) → n ≤ p → nat_lt p n ≡ false
not-less p n le = elim (cases_Bool (nat_lt p n)) [
  | inl is ↦ absurd (omega (arith, le, ltb-true p n is))
  | inr not ↦ not
]

at-least : (p n : ℕ) → nat_lt p n ≡ false → n ≤ p
at-least p n not = elim (cases_order p n) [
  | inl same ↦ omega (arith, same)
  | inr apart ↦ elim apart [ inl lt ↦ absurd (let is = lt-ltb p n lt in cc) | inr gt ↦ omega arith ]
]

-- a contract that isn't there has no children
children-past : (children : List (List ℕ)) (p : ℕ) → length children ≤ p → children_of children p ≡ []
children-past [] p le = refl
children-past (x ∷ xs) zero le = absurd (omega arith)
children-past (x ∷ xs) (suc p) le = children-past xs p (omega arith)

times-some : (xs : List ℕ) (k d : ℕ) → k < length xs → 1 ≤ times (get_or xs k d) xs
times-some xs k d lt =
    let one : ◌≡◌ {A = ℕ} (cond (get_or xs k d == get_or xs k d) 1 0) 1 = ap (λ (b : Bool). cond {A = ℕ} b 1 0) (eq-eqb (get_or xs k d) (get_or xs k d) refl) in
    omega (arith, get_or-le-sum_by (λ (m : ℕ). cond {A = ℕ} (m == get_or xs k d) 1 0) xs k d lt, one)

-- ---- one child more

module _ (before between after : List (List ℕ)) (children : List ℕ) (parent child : ℕ) (adds : AddsTimes before between children parent) (exists : child < length between) (is : after ≡ set between child (children_of between child ++ parent ∷ [])) where
  here : children_of after child ≡ children_of between child ++ parent ∷ []
  here = rw is (get_or-set_same between child (children_of between child ++ parent ∷ []) [] exists)

  elsewhere : (c : ℕ) → (c ≡ child → ⊥) → children_of after c ≡ children_of between c
  elsewhere c other = rw is (get_or-set_other between child c (children_of between child ++ parent ∷ []) [] other)

  pub adds_one : AddsTimes before after (children ++ child ∷ []) parent
  adds_one = record {
    count = ap length is ∙ (length-set between child (children_of between child ++ parent ∷ []) ∙ adds.count);
    times = λ c p lt. elim (cases_Bool (parent == p)) [
      | inl this ↦
          let new : cond (parent == p) (times c (children ++ child ∷ [])) 0 ≡ times c (children ++ child ∷ []) = ap (λ (b : Bool). cond b (times c (children ++ child ∷ [])) 0) this in
          let old : cond (parent == p) (times c children) 0 ≡ times c children = ap (λ (b : Bool). cond b (times c children) 0) this in
          let one : ◌≡◌ {A = ℕ} (cond (parent == p) 1 0) 1 = ap (λ (b : Bool). cond {A = ℕ} b 1 0) this in
          elim (cases_eq c child) [
            | inl same ↦
                let bit : ◌≡◌ {A = ℕ} (cond (child == c) 1 0) 1 = ap (λ (b : Bool). cond {A = ℕ} b 1 0) (eq-eqb child c (sym same)) in
                omega (arith, adds.times c p lt, new, old, one, bit, times-push c children child, times-push p (children_of between child) parent, ap (times p) here, ap (λ (d : ℕ). times p (children_of after d)) same, ap (λ (d : ℕ). times p (children_of between d)) same)
            | inr other ↦
                let bit : ◌≡◌ {A = ℕ} (cond (child == c) 1 0) 0 = ap (λ (b : Bool). cond {A = ℕ} b 1 0) (ne_eqb child c (λ so. other (sym so))) in
                omega (arith, adds.times c p lt, new, old, bit, times-push c children child, ap (times p) (elsewhere c other))
          ]
      | inr not ↦
          let new : cond (parent == p) (times c (children ++ child ∷ [])) 0 ≡ 0 = ap (λ (b : Bool). cond b (times c (children ++ child ∷ [])) 0) not in
          let old : cond (parent == p) (times c children) 0 ≡ 0 = ap (λ (b : Bool). cond b (times c children) 0) not in
          let none : ◌≡◌ {A = ℕ} (cond (parent == p) 1 0) 0 = ap (λ (b : Bool). cond {A = ℕ} b 1 0) not in
          elim (cases_eq c child) [
            | inl same ↦
                omega (arith, adds.times c p lt, new, old, none, times-push p (children_of between child) parent, ap (times p) here, ap (λ (d : ℕ). times p (children_of after d)) same, ap (λ (d : ℕ). times p (children_of between d)) same)
            | inr other ↦ omega (arith, adds.times c p lt, new, old, ap (times p) (elsewhere c other))
          ]
    ];
  }

-- ---- one contract more

pub below-none : {A : Type 0} (children : List (List ℕ)) (lists : List (Vec ℕ A)) → length lists ≡ length children → All (λ list. length list.items ≡ 0) lists → AreParentsBelow children 0 (child_lists lists)
below-none children lists count empty = record {
  count = omega (arith, length-child_lists lists, count);
  times = λ c p lt. none c p (omega (arith, lt, count));
}
  where
    none : (c p : ℕ) → c < length lists → times p (children_of (child_lists lists) c) ≡ cond (nat_lt p 0) (times c (children_of children p)) 0
    none c p lt = elim (slice_get_cases lists c).1 [
      | inl found ↦
          let read = children_of-read lists c found.0 (sym found.3) found.1 in
          let nothing : length found.0.items ≡ 0 = rw found.3 at (empty c found.0 found.1) in
          let right : cond (nat_lt p 0) (times c (children_of children p)) 0 ≡ 0 = ap (λ (b : Bool). cond b (times c (children_of children p)) 0) (not-less p 0 (omega arith)) in
          omega (arith, nothing, ap length read, count_by-le-length (λ (m : ℕ). m == p) (children_of (child_lists lists) c), right)
      | inr past ↦ absurd (omega (arith, past.0, lt))
    ]

module _ (children before after : List (List ℕ)) (e : ℕ) (below : AreParentsBelow children e before) (adds : AddsTimes before after (children_of children e) e) where
  pub below-more : AreParentsBelow children (e + 1) after
  below-more = record {
    count = omega (arith, adds.count, below.count);
    times = λ c p lt.
        let was = below.times c p lt in
        let now = adds.times c p (omega (arith, lt, below.count)) in
        elim (cases_order p e) [
          | inl same ↦
              let low : cond (nat_lt p e) (times c (children_of children p)) 0 ≡ 0 = ap (λ (b : Bool). cond b (times c (children_of children p)) 0) (not-less p e (omega (arith, same))) in
              let own : cond (e == p) (times c (children_of children e)) 0 ≡ times c (children_of children e) = ap (λ (b : Bool). cond b (times c (children_of children e)) 0) (eq-eqb e p (sym same)) in
              let high : cond (nat_lt p (e + 1)) (times c (children_of children p)) 0 ≡ times c (children_of children p) = ap (λ (b : Bool). cond b (times c (children_of children p)) 0) (lt-ltb p (e + 1) (omega (arith, same))) in
              omega (arith, was, now, low, own, high, ap (λ (d : ℕ). times c (children_of children d)) same)
          | inr apart ↦ elim apart [
            | inl lt2 ↦
                let low : cond (nat_lt p e) (times c (children_of children p)) 0 ≡ times c (children_of children p) = ap (λ (b : Bool). cond b (times c (children_of children p)) 0) (lt-ltb p e lt2) in
                let own : cond (e == p) (times c (children_of children e)) 0 ≡ 0 = ap (λ (b : Bool). cond b (times c (children_of children e)) 0) (ne_eqb e p (λ is. omega (arith, is, lt2))) in
                let high : cond (nat_lt p (e + 1)) (times c (children_of children p)) 0 ≡ times c (children_of children p) = ap (λ (b : Bool). cond b (times c (children_of children p)) 0) (lt-ltb p (e + 1) (omega (arith, lt2))) in
                omega (arith, was, now, low, own, high)
            | inr gt ↦
                let low : cond (nat_lt p e) (times c (children_of children p)) 0 ≡ 0 = ap (λ (b : Bool). cond b (times c (children_of children p)) 0) (not-less p e (omega (arith, gt))) in
                let own : cond (e == p) (times c (children_of children e)) 0 ≡ 0 = ap (λ (b : Bool). cond b (times c (children_of children e)) 0) (ne_eqb e p (λ is. omega (arith, is, gt))) in
                let high : cond (nat_lt p (e + 1)) (times c (children_of children p)) 0 ≡ 0 = ap (λ (b : Bool). cond b (times c (children_of children p)) 0) (not-less p (e + 1) (omega (arith, gt))) in
                omega (arith, was, now, low, own, high)
          ]
        ];
  }

pub below-all : (children parents : List (List ℕ)) (e : ℕ) → length children ≤ e → AreParentsBelow children e parents → AreParents children parents
below-all children parents e all below = record {
  count = below.count;
  times = λ c p lt. elim (cases_Bool (nat_lt p e)) [
    | inl is ↦ below.times c p lt ∙ ap (λ (b : Bool). cond b (times c (children_of children p)) 0) is
    | inr not ↦ below.times c p lt ∙ (ap (λ (b : Bool). cond b (times c (children_of children p)) 0) not ∙ sym (ap (times c) (children-past children p (omega (arith, all, at-least p e not)))))
  ];
}

-- who refers to one exists
pub parents-exist : (children parents : List (List ℕ)) (c : ℕ) → AreParents children parents → c < length children → All (λ p. p < length children) (children_of parents c)
parents-exist children parents c are lt = λ k d within.
    let p = get_or (children_of parents c) k d in
    elim (cases_order p (length children)) [
      | inl same ↦ absurd (none k d within (omega (arith, same)))
      | inr apart ↦ elim apart [ inl less ↦ less | inr gt ↦ absurd (none k d within (omega arith)) ]
    ]
  where
    none : (k d : ℕ) → k < length (children_of parents c) → length children ≤ get_or (children_of parents c) k d → ⊥
    none k d within past =
        let p = get_or (children_of parents c) k d in
        omega (arith, times-some (children_of parents c) k d within, are.times c p lt, ap (times c) (children-past children p past))

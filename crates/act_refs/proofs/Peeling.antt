-- Contracts are marked that are on no cycle.
use Rattle.std.proofs.Common.{◌≡◌, ℕ, suc, ◌<◌, ◌≤◌, Bool, true, false, List, [], ◌∷◌, ◌++◌, length, get_or, set, replicate, inl, inr, sym, ◌∙◌, arith}
use Rattle.std.proofs.lemmas.Bool.{cases_eq, cases_lt, false≢true}
use Rattle.std.proofs.lemmas.List.{get_or-replicate, get_or-set_other, get_or-set_same, get_or_default, get_or_past, length-replicate, length-set}
use Rattle.std.proofs.lemmas.List.Elements.{All-push}
use Rattle.std.specs.Prelude.{Vec}
use Rattle.act_refs.specs.Path.{IsChild, OnCycle, child_lists, children_of}
use Rattle.act_refs.specs.Peeled.{ArePeeled, IsPeeling}
use Rattle.act_refs.specs.Turned.{IsTurned}
use Rattle.act_refs.proofs.Paths.{HasPath-turned, length-child_lists, no_cycle-parent}

abbrev nothing : ℕ
nothing = 0

none_marked : (n c : ℕ) → get_or (replicate n false) c false ≡ false
none_marked n c =
    elim (cases_lt c n) [
      | inl lt ↦ get_or-replicate n c false false lt
      | inr le ↦ get_or_past (replicate n false) c false (omega (arith, length-replicate n false))
    ]

none_passed : (n c : ℕ) → get_or (replicate n nothing) c nothing ≡ nothing
none_passed n c =
    elim (cases_lt c n) [
      | inl lt ↦ get_or-replicate n c nothing nothing lt
      | inr le ↦ get_or_past (replicate n nothing) c nothing (omega (arith, length-replicate n nothing))
    ]

pub peeling_start : {A : Type 0} (children : List (Vec ℕ A)) → IsPeeling (child_lists children) (replicate (length children) 0) (replicate (length children) false) []
peeling_start children =
    let n = length children in
    let size = length-child_lists children in
    record {
      next_count = length-replicate n nothing ∙ sym size;
      count = length-replicate n false ∙ sym size;
      marked = λ c marked. absurd (false≢true (sym (none_marked n c) ∙ marked));
      passed = λ c k lt within. absurd (omega (arith, none_passed n c));
      queued = λ k d lt. absurd (omega arith);
    }

module _ (graph : List (List ℕ)) (next : List ℕ) (peeled : List Bool) (queue : List ℕ) (before : IsPeeling graph next peeled queue) (contract : ℕ) (exists : contract < length graph) where
  -- a contract's next child is a later one
  pub peeling_on : (place : ℕ) → ((k : ℕ) → get_or next contract 0 ≤ k → k < place → k < length (children_of graph contract) → get_or peeled (get_or (children_of graph contract) k 0) false ≡ true) → IsPeeling graph (set next contract place) peeled queue
  peeling_on place more =
      record {
        next_count = length-set next contract place ∙ before.next_count;
        count = before.count;
        marked = before.marked;
        passed = λ c k lt within. elim (cases_eq c contract) [
          | inl same ↦
              let at = get_or-set_same next contract place 0 (omega (arith, before.next_count)) in
              elim (cases_lt k (get_or next contract 0)) [
                | inl old ↦ rw same (before.passed contract k old (rw same at within))
                | inr new ↦ rw same (more k new (omega (arith, rw (same, at) at lt)) (rw same at within))
              ]
          | inr other ↦ before.passed c k (rw (get_or-set_other next contract c place 0 other) at lt) within
        ];
        queued = before.queued;
      }

  still : (c : ℕ) → get_or peeled c false ≡ true → get_or (set peeled contract true) c false ≡ true
  still c was = elim (cases_eq c contract) [
    | inl same ↦ rw same (get_or-set_same peeled contract true false (omega (arith, before.count)))
    | inr other ↦ get_or-set_other peeled contract c true false other ∙ was
  ]

  no_child : length (children_of graph contract) ≤ get_or next contract 0 → (child : ℕ) → IsChild graph contract child → ¬ (OnCycle graph child)
  no_child all child refers =
      let same : get_or (children_of graph contract) refers.0 0 ≡ child = get_or_default (children_of graph contract) refers.0 0 child refers.1 ∙ refers.2 in
      before.marked child (rw same at (before.passed contract refers.0 (omega (arith, refers.1)) refers.1))

  -- a contract with no next child is marked
  pub peeling_more : length (children_of graph contract) ≤ get_or next contract 0 → IsPeeling graph next (set peeled contract true) (queue ++ contract ∷ [])
  peeling_more all =
      record {
        next_count = before.next_count;
        count = length-set peeled contract true ∙ before.count;
        marked = λ c now. elim (cases_eq c contract) [
          | inl same ↦ rw same (no_cycle-parent graph contract (no_child all))
          | inr other ↦ before.marked c (sym (get_or-set_other peeled contract c true false other) ∙ now)
        ];
        passed = λ c k lt within. still (get_or (children_of graph c) k 0) (before.passed c k lt within);
        queued = All-push (λ c. c < length graph) queue contract before.queued exists;
      }

-- both, as a look at a contract does them, by the list of its children
module _ (graph : List (List ℕ)) (next : List ℕ) (peeled : List Bool) (queue : List ℕ) (before : IsPeeling graph next peeled queue) (contract : ℕ) (exists : contract < length graph) (list : List ℕ) (is : list ≡ children_of graph contract) (place : ℕ) (more : (k : ℕ) → get_or next contract 0 ≤ k → k < place → k < length list → get_or peeled (get_or list k 0) false ≡ true) where
  pub looked_on : IsPeeling graph (set next contract place) peeled queue
  looked_on = peeling_on graph next peeled queue before contract exists place (rw is at more)

  pub looked_at : length list ≤ place → IsPeeling graph (set next contract place) (set peeled contract true) (queue ++ contract ∷ [])
  looked_at all =
      peeling_more graph (set next contract place) peeled queue looked_on contract exists
      (rw (get_or-set_same next contract place 0 (omega (arith, before.next_count)), ← is) all)

-- ---- both ways

-- a contract that is marked where references are turned around is on no cycle
pub marked_turned : (graph turned : List (List ℕ)) (marks : List Bool) (contract : ℕ) → IsTurned graph turned → ArePeeled turned marks → get_or marks contract false ≡ true → ¬ (OnCycle graph contract)
marked_turned graph turned marks contract turn are marked = λ cycle.
    are contract marked (cycle.0, HasPath-turned graph turned turn (suc cycle.0) contract contract cycle.1)

-- one more that is on none is marked
pub marked_more : (graph : List (List ℕ)) (marks : List Bool) (contract : ℕ) → ArePeeled graph marks → ¬ (OnCycle graph contract) → ArePeeled graph (set marks contract true)
marked_more graph marks contract are none = λ c now. elim (cases_eq c contract) [
  | inl same ↦ rw same none
  | inr other ↦ are c (sym (get_or-set_other marks contract c true false other) ∙ now)
]

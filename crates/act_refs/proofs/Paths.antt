-- Paths along references, and cycles.
use Rattle.std.proofs.Common.{◌≡◌, ℕ, zero, suc, ◌<◌, ◌≤◌, List, [], length, get_or, inl, inr, refl, sym, ap, ◌∙◌, arith}
use Rattle.std.proofs.lemmas.Bool.{cases_lt}
use Rattle.std.proofs.lemmas.List.{get_or-map, get_or_past, length-map}
use Rattle.std.specs.Prelude.{Vec}
use Rattle.act_refs.specs.Turned.{IsTurned}
use Rattle.act_refs.specs.Path.{HasPath, IsChild, OnCycle, child_lists, children_of}

-- ---- the lists of children

pub length-child_lists : {A : Type 0} (children : List (Vec ℕ A)) → length (child_lists children) ≡ length children
unfolding child_lists
length-child_lists children = length-map children (λ v. v.items)

-- what `children[i]` reads
pub children_of-read : {A : Type 0} (children : List (Vec ℕ A)) (i : ℕ) (list : Vec ℕ A) → list ≡ get_or children i list → i < length children → children_of (child_lists children) i ≡ list.items
unfolding child_lists
children_of-read children i list is within =
    get_or-map (λ v. v.items) children i list [] within ∙ ap (λ v. v.items) (sym is)

-- only a contract in the list refers to others
pub IsChild-within : (graph : List (List ℕ)) (parent child : ℕ) → IsChild graph parent child → parent < length graph
IsChild-within graph parent child is =
    elim (cases_lt parent (length graph)) [
      | inl lt ↦ lt
      | inr le ↦
          let none : children_of graph parent ≡ [] = get_or_past graph parent [] le in
          let few : is.0 < length (children_of graph parent) = is.1 in
          absurd (omega (arith, rw none at few))
    ]

-- ---- paths

pub HasPath-none : (graph : List (List ℕ)) (a : ℕ) → HasPath graph 0 a a
unfolding HasPath
HasPath-none graph a = refl

pub HasPath-nowhere : (graph : List (List ℕ)) (a b : ℕ) → HasPath graph 0 a b → a ≡ b
unfolding HasPath
HasPath-nowhere graph a b path = path

pub HasPath-cons : (graph : List (List ℕ)) (n a c b : ℕ) → IsChild graph a c → HasPath graph n c b → HasPath graph (suc n) a b
unfolding HasPath
HasPath-cons graph n a c b child path = (c, child, path)

-- the first reference of a path
pub HasPath-first : (graph : List (List ℕ)) (n a b : ℕ) → HasPath graph (suc n) a b → (c : ℕ) × IsChild graph a c × HasPath graph n c b
unfolding HasPath
HasPath-first graph n a b path = path

pub HasPath-push : (graph : List (List ℕ)) (n a b c : ℕ) → HasPath graph n a b → IsChild graph b c → HasPath graph (suc n) a c
HasPath-push graph zero a b c path child =
    let same : a ≡ b = HasPath-nowhere graph a b path in
    HasPath-cons graph 0 a c c (rw same child) (HasPath-none graph c)
HasPath-push graph (suc n) a b c path child =
    let step = HasPath-first graph n a b path in
    HasPath-cons graph (suc n) a step.0 c step.1 (HasPath-push graph n step.0 b c step.2 child)

-- the last reference of a path
pub HasPath-last : (graph : List (List ℕ)) (n a b : ℕ) → HasPath graph (suc n) a b → (c : ℕ) × HasPath graph n a c × IsChild graph c b
HasPath-last graph zero a b path =
    let step = HasPath-first graph 0 a b path in
    let same : step.0 ≡ b = HasPath-nowhere graph step.0 b step.2 in
    (a, HasPath-none graph a, rw same at step.1)
HasPath-last graph (suc n) a b path =
    let step = HasPath-first graph (suc n) a b path in
    let rest = HasPath-last graph n step.0 b step.2 in
    (rest.0, HasPath-cons graph n a step.0 rest.0 step.1 rest.1, rest.2)

-- a path the other way, where all references are turned around
pub HasPath-turned : (graph turned : List (List ℕ)) → IsTurned graph turned → (n a b : ℕ) → HasPath graph n a b → HasPath turned n b a
HasPath-turned graph turned turn zero a b path =
    let same : a ≡ b = HasPath-nowhere graph a b path in
    rw same (HasPath-none turned b)
HasPath-turned graph turned turn (suc n) a b path =
    let step = HasPath-first graph n a b path in
    HasPath-push turned n b step.0 a (HasPath-turned graph turned turn n step.0 b step.2) ((turn a step.0).0 step.1)

pub IsTurned-sym : (graph turned : List (List ℕ)) → IsTurned graph turned → IsTurned turned graph
IsTurned-sym graph turned turn = λ parent child. ((turn child parent).1, (turn child parent).0)

-- ---- cycles

-- the next contract on a cycle
pub OnCycle-child : (graph : List (List ℕ)) (contract : ℕ) → OnCycle graph contract → (child : ℕ) × IsChild graph contract child × OnCycle graph child
OnCycle-child graph contract cycle =
    let step = HasPath-first graph cycle.0 contract contract cycle.1 in
    (step.0, step.1, (cycle.0, HasPath-push graph cycle.0 step.0 contract step.0 step.2 step.1))

-- paths of any length start on a cycle
pub OnCycle-path : (graph : List (List ℕ)) (n contract : ℕ) → OnCycle graph contract → (last : ℕ) × HasPath graph n contract last
OnCycle-path graph zero contract cycle = (contract, HasPath-none graph contract)
OnCycle-path graph (suc n) contract cycle =
    let next = OnCycle-child graph contract cycle in
    let rest = OnCycle-path graph n next.0 next.2 in
    (rest.0, HasPath-cons graph n contract next.0 rest.0 next.1 rest.1)

-- a contract all of whose children are on no cycle is on none
pub no_cycle-parent : (graph : List (List ℕ)) (contract : ℕ) → ((child : ℕ) → IsChild graph contract child → ¬ (OnCycle graph child)) → ¬ (OnCycle graph contract)
no_cycle-parent graph contract none = λ cycle.
    let next = OnCycle-child graph contract cycle in
    none next.0 next.1 next.2

-- nor is one outside the list
pub no_cycle-outside : (graph : List (List ℕ)) (contract : ℕ) → length graph ≤ contract → ¬ (OnCycle graph contract)
no_cycle-outside graph contract outside = λ cycle.
    let next = OnCycle-child graph contract cycle in
    let within = IsChild-within graph contract next.0 next.1 in
    omega arith

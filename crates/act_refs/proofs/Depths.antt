-- Chains and depths.
use Rattle.std.proofs.Common.{◌≡◌, ◌≢◌, zero-add, ℕ, zero, suc, ◌+◌, ◌<◌, ◌≤◌, ◌⊎◌, List, length, get_or, inl, inr, refl, ap, ◌∙◌, arith}
use Rattle.std.proofs.lemmas.Bool.{cases_order}
use Rattle.std.proofs.lemmas.List.{get_or_default}
use Rattle.std.proofs.lemmas.List.FromFn.{get_or-range_with_len, length-range_with_len}
use Rattle.std.proofs.lemmas.List.Sorted.{Contains-permutation}
use Rattle.std.specs.List.{Contains, range_with_len}
use Rattle.act_refs.specs.Order.{ChildrenStandFirst, ComesBefore, IsReferenceOrder, IsTooDeep}
use Rattle.act_refs.specs.Path.{HasChain, HasDepth, HasPath, IsChild, OnCycle}
use Rattle.act_refs.proofs.Paths.{HasPath-cons, HasPath-first, HasPath-last, HasPath-none, IsChild-within, OnCycle-path}

pub HasChain-one : (graph : List (List ℕ)) (contract : ℕ) → HasChain graph contract 1
HasChain-one graph contract = record { last = contract; references = 0; path = HasPath-none graph contract; contracts = refl }

-- a chain with the parent before it
pub HasChain-parent : (graph : List (List ℕ)) (parent child count : ℕ) → IsChild graph parent child → HasChain graph child count → HasChain graph parent (suc count)
HasChain-parent graph parent child count is chain =
    record {
      last = chain.last;
      references = suc chain.references;
      path = HasPath-cons graph chain.references parent child chain.last is chain.path;
      contracts = ap suc chain.contracts;
    }

-- a chain is the contract alone, or goes on at a child
HasChain-split : (graph : List (List ℕ)) (contract count last n : ℕ) → HasPath graph n contract last → suc n ≡ count → (count ≡ 1) ⊎ ((child : ℕ) × (rest : ℕ) × IsChild graph contract child × HasChain graph child rest × (count ≡ suc rest))
HasChain-split graph contract count last zero path is = inl (omega arith)
HasChain-split graph contract count last (suc n) path is =
    let step = HasPath-first graph n contract last path in
    inr (step.0, suc n, step.1, record { last = last; references = n; path = step.2; contracts = refl }, omega arith)

pub HasChain-cases : (graph : List (List ℕ)) (contract count : ℕ) → HasChain graph contract count → (count ≡ 1) ⊎ ((child : ℕ) × (rest : ℕ) × IsChild graph contract child × HasChain graph child rest × (count ≡ suc rest))
HasChain-cases graph contract count chain = HasChain-split graph contract count chain.last chain.references chain.path chain.contracts

-- a chain without its last contract
HasChain-less : (graph : List (List ℕ)) (contract last n : ℕ) → HasPath graph (suc n) contract last → HasChain graph contract (suc n)
HasChain-less graph contract last n path =
    let cut = HasPath-last graph n contract last path in
    record { last = cut.0; references = n; path = cut.1; contracts = refl }

HasChain-cut : (graph : List (List ℕ)) (contract count last n : ℕ) → HasPath graph n contract last → suc n ≡ suc (suc count) → HasChain graph contract (suc count)
HasChain-cut graph contract count last zero path is = absurd (omega arith)
HasChain-cut graph contract count last (suc n) path is =
    let same : n ≡ count = omega arith in
    rw (← same) (HasChain-less graph contract last n path)

pub HasChain-shorter : (graph : List (List ℕ)) (contract count : ℕ) → 1 ≤ count → HasChain graph contract (count + 1) → HasChain graph contract count
HasChain-shorter graph contract zero some chain = absurd (omega arith)
HasChain-shorter graph contract (suc count) some chain =
    HasChain-cut graph contract count chain.last chain.references chain.path (omega (arith, chain.contracts))

-- ---- depths

pub HasDepth-same : (graph : List (List ℕ)) (contract d e : ℕ) → HasDepth graph contract d → HasDepth graph contract e → d ≡ e
HasDepth-same graph contract d e has has₂ = omega (arith, has.longest e has₂.chain, has₂.longest d has.chain)

-- a child is of less depth
pub HasDepth-child : (graph : List (List ℕ)) (parent child d e : ℕ) → IsChild graph parent child → HasDepth graph parent d → HasDepth graph child e → e < d
HasDepth-child graph parent child d e is has child_has =
    omega (arith, has.longest (suc e) (HasChain-parent graph parent child e is child_has.chain))

-- a contract all of whose children are of less depth, where a chain of so many starts, is of that depth
pub HasDepth-settles : (graph : List (List ℕ)) (contract depth : ℕ) → HasChain graph contract depth → ((child : ℕ) → IsChild graph contract child → (d : ℕ) × HasDepth graph child d × (d < depth)) → HasDepth graph contract depth
HasDepth-settles graph contract depth chain below =
    record {
      chain = chain;
      longest = λ count other. elim (HasChain-cases graph contract count other) [
        | inl one ↦ omega (arith, chain.contracts)
        | inr more ↦
            let child = below more.0 more.2 in
            omega (arith, child.1.longest more.1 more.3, child.2, more.4)
      ];
    }

-- no contract of a depth is on a cycle
pub no_cycle-depth : (graph : List (List ℕ)) (contract depth : ℕ) → HasDepth graph contract depth → ¬ (OnCycle graph contract)
no_cycle-depth graph contract depth has = λ cycle.
    let long = OnCycle-path graph depth contract cycle in
    omega (arith, has.longest (suc depth) (record { last = long.0; references = depth; path = long.1; contracts = refl }))

-- one of a depth up to 16 isn't too deep
pub not_too_deep : (graph : List (List ℕ)) (contract depth : ℕ) → HasDepth graph contract depth → depth ≤ 16 → ¬ (IsTooDeep graph contract)
not_too_deep graph contract depth has few = λ deep. omega (arith, has.longest deep.0 deep.2, deep.1)

-- nor is one outside the list
pub not_too_deep-outside : (graph : List (List ℕ)) (contract : ℕ) → length graph ≤ contract → ¬ (IsTooDeep graph contract)
not_too_deep-outside graph contract outside = λ deep.
    elim (HasChain-cases graph contract deep.0 deep.2) [
      | inl one ↦ omega (arith, deep.1)
      | inr more ↦ let within = IsChild-within graph contract more.0 more.2 in omega arith
    ]

-- ---- the law

-- a contract isn't its own child where it has a depth
no_loop : (graph : List (List ℕ)) (contract depth : ℕ) → HasDepth graph contract depth → ¬ (IsChild graph contract contract)
no_loop graph contract depth has = λ child. omega (arith, HasDepth-child graph contract contract depth depth child has has)

-- nor does a parent come before its child
no_parent_before : (graph : List (List ℕ)) (parent child : ℕ) → IsChild graph parent child → ¬ (ComesBefore graph parent child)
no_parent_before graph parent child is = λ before.
    let less = HasDepth-child graph parent child before.depth before.later_depth is before.has before.later_has in
    elim before.less [ inl lt ↦ omega arith | inr tie ↦ omega (arith, tie.0) ]

-- of two places in the order, that of a child is the earlier one
pub child_earlier : (graph : List (List ℕ)) (order : List ℕ) → IsReferenceOrder graph order → (i j : ℕ) → i < length order → j < length order → IsChild graph (get_or order j 0) (get_or order i 0) → i < j
child_earlier graph order is i j within within₂ child =
    elim (cases_order i j) [
      | inl same ↦
          let has = is.depths (get_or order j 0) (IsChild-within graph (get_or order j 0) (get_or order i 0) child) in
          absurd (no_loop graph (get_or order j 0) has.0 has.1 (rw same at child))
      | inr other ↦ elim other [
        | inl lt ↦ lt
        | inr gt ↦ absurd (no_parent_before graph (get_or order j 0) (get_or order i 0) child (is.sorted j i 0 gt within))
      ]
    ]

-- the place of a contract in the order
pub place : (graph : List (List ℕ)) (order : List ℕ) → IsReferenceOrder graph order → (contract : ℕ) → contract < length graph → (i : ℕ) × (i < length order) × (get_or order i 0 ≡ contract)
place graph order is contract within =
    let numbers = range_with_len 0 (length graph) in
    let there : Contains numbers contract = (contract, omega (arith, length-range_with_len 0 (length graph)), get_or-range_with_len 0 (length graph) contract contract within ∙ zero-add contract) in
    let has = Contains-permutation numbers order contract is.permutation there in
    (has.0, has.1, get_or_default order has.0 0 contract has.1 ∙ has.2)

pub children_first : ChildrenStandFirst
children_first = λ graph order is parent child refers within.
    let i = place graph order is child within in
    let j = place graph order is parent (IsChild-within graph parent child refers) in
    (i.0, j.0, child_earlier graph order is i.0 j.0 i.1 j.1 (rw (i.2, j.2) refers), j.1, i.2, j.2)

-- no contract comes before itself
pub apart : (graph : List (List ℕ)) (earlier later : ℕ) → ComesBefore graph earlier later → earlier ≢ later
apart graph earlier later before = λ same.
    let depth = HasDepth-same graph later before.depth before.later_depth (rw same at before.has) before.later_has in
    elim before.less [ inl lt ↦ omega arith | inr tie ↦ omega (arith, tie.1) ]

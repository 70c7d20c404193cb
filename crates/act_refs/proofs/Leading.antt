-- The tests for paths and chains say whether there are any.
use Rattle.std.proofs.Common.{◌≡◌, ℕ, zero, suc, ◌<◌, ◌≤◌, Bool, true, false, List, refl, arith, eq-eqb}
use Rattle.std.proofs.lemmas.Bool.{eqb-true, false_from_ne_true}
use Rattle.std.proofs.lemmas.List.Folds.{Any-from_list_any, list_any_at}
use Rattle.std.specs.List.{list_any}
use Rattle.act_refs.specs.Order.{IsTooDeep}
use Rattle.act_refs.specs.Ordered.{goes_on, leads}
use Rattle.act_refs.specs.Path.{HasChain, HasPath, IsChild, children_of}
use Rattle.act_refs.proofs.Paths.{HasPath-cons, HasPath-first, HasPath-none, HasPath-nowhere}

-- a child passes, so one of the children does
pub passes : (p : ℕ → Bool) (graph : List (List ℕ)) (contract child : ℕ) → IsChild graph contract child → p child ≡ true → list_any p (children_of graph contract) ≡ true
passes p graph contract child refers pass =
    list_any_at p (children_of graph contract) refers.0 child refers.1 (rw refers.2 pass)

-- a child that passes, where one does
pub passing : (p : ℕ → Bool) (graph : List (List ℕ)) (contract : ℕ) → list_any p (children_of graph contract) ≡ true → (child : ℕ) × IsChild graph contract child × (p child ≡ true)
passing p graph contract pass =
    let any = Any-from_list_any p (children_of graph contract) pass in
    (any.1, (any.0, any.2, any.3), any.4)

-- ---- paths to a contract

pub leads-from_path : (graph : List (List ℕ)) (n to from : ℕ) → HasPath graph n from to → leads graph n to from ≡ true
unfolding leads
leads-from_path graph zero to from path = eq-eqb from to (HasPath-nowhere graph from to path)
leads-from_path graph (suc n) to from path =
    let step = HasPath-first graph n from to path in
    passes (leads graph n to) graph from step.0 step.1 (leads-from_path graph n to step.0 step.2)

pub path-from_leads : (graph : List (List ℕ)) (n to from : ℕ) → leads graph n to from ≡ true → HasPath graph n from to
unfolding leads
path-from_leads graph zero to from is =
    let same : from ≡ to = eqb-true from to is in
    rw same (HasPath-none graph to)
path-from_leads graph (suc n) to from is =
    let step = passing (leads graph n to) graph from is in
    HasPath-cons graph n from step.0 to step.1 (path-from_leads graph n to step.0 step.2)

pub leads-none : (graph : List (List ℕ)) (n to from : ℕ) → ¬ (HasPath graph n from to) → leads graph n to from ≡ false
leads-none graph n to from none = false_from_ne_true (leads graph n to from) (λ is. none (path-from_leads graph n to from is))

-- ---- paths to anywhere, and chains

pub goes_on-from_path : (graph : List (List ℕ)) (n from to : ℕ) → HasPath graph n from to → goes_on graph n from ≡ true
unfolding goes_on
goes_on-from_path graph zero from to path = refl
goes_on-from_path graph (suc n) from to path =
    let step = HasPath-first graph n from to path in
    passes (goes_on graph n) graph from step.0 step.1 (goes_on-from_path graph n step.0 to step.2)

pub path-from_goes_on : (graph : List (List ℕ)) (n from : ℕ) → goes_on graph n from ≡ true → (to : ℕ) × HasPath graph n from to
unfolding goes_on
path-from_goes_on graph zero from is = (from, HasPath-none graph from)
path-from_goes_on graph (suc n) from is =
    let step = passing (goes_on graph n) graph from is in
    let rest = path-from_goes_on graph n step.0 step.2 in
    (rest.0, HasPath-cons graph n from step.0 rest.0 step.1 rest.1)

pub goes_on-none : (graph : List (List ℕ)) (from : ℕ) → goes_on graph 0 from ≡ true
unfolding goes_on
goes_on-none graph from = refl

-- a path has one of each smaller number of references as its beginning
pub goes_on-fewer : (graph : List (List ℕ)) (n m from : ℕ) → n ≤ m → goes_on graph m from ≡ true → goes_on graph n from ≡ true
unfolding goes_on
goes_on-fewer graph zero m from fewer is = refl
goes_on-fewer graph (suc n) zero from fewer is = absurd (omega arith)
goes_on-fewer graph (suc n) (suc m) from fewer is =
    let step = passing (goes_on graph m) graph from is in
    passes (goes_on graph n) graph from step.0 step.1 (goes_on-fewer graph n m step.0 (omega arith) step.2)

pub chain-from_goes_on : (graph : List (List ℕ)) (n contract : ℕ) → goes_on graph n contract ≡ true → HasChain graph contract (suc n)
chain-from_goes_on graph n contract is =
    let path = path-from_goes_on graph n contract is in
    record { last = path.0; references = n; path = path.1; contracts = refl }

pub goes_on-from_chain : (graph : List (List ℕ)) (n contract count : ℕ) → HasChain graph contract count → n < count → goes_on graph n contract ≡ true
goes_on-from_chain graph n contract count chain fewer =
    goes_on-fewer graph n chain.references contract (omega (arith, chain.contracts)) (goes_on-from_path graph chain.references contract chain.last chain.path)

pub goes_on-from_deep : (graph : List (List ℕ)) (contract : ℕ) → IsTooDeep graph contract → goes_on graph 16 contract ≡ true
goes_on-from_deep graph contract deep = goes_on-from_chain graph 16 contract deep.0 deep.2 deep.1

pub goes_on-not_deep : (graph : List (List ℕ)) (contract : ℕ) → ¬ (IsTooDeep graph contract) → goes_on graph 16 contract ≡ false
goes_on-not_deep graph contract not =
    false_from_ne_true (goes_on graph 16 contract) (λ is. not (17, omega arith, chain-from_goes_on graph 16 contract is))

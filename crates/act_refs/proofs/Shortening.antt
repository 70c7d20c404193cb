-- A shortest path has fewer references than there are contracts, and the cycle that is reported is found by trying out paths of fewer.
use Rattle.std.proofs.Common.{◌≡◌, ◌≢◌, ℕ, zero, suc, ◌<◌, ◌≤◌, eqb, false, List, [], ◌∷◌, ◌++◌, length, get_or, Some, None, inl, inr, refl, sym, ap, ◌∙◌, add-one, arith}
use Rattle.std.proofs.lemmas.Bool.{cases_lt, cond-false, cond-true, eq-eqb, eqb-true, false_from_ne_true, ne_eqb}
use Rattle.std.proofs.lemmas.Bool.Decides.{Decides-eqb}
use Rattle.std.proofs.lemmas.List.{get_or_default}
use Rattle.std.proofs.lemmas.List.Elements.{All-cons, All-tail}
use Rattle.std.proofs.lemmas.List.Kept.{AllPairs-cons}
use Rattle.std.proofs.lemmas.Map.Made.{IsDistinct-from_AllPairs}
use Rattle.std.proofs.lemmas.Map.Steps.{length-le_from_distinct_below}
use Rattle.std.proofs.lemmas.Map.Views.{Contains-from_any}
use Rattle.std.proofs.lemmas.Option.{slice_get_cases}
use Rattle.std.specs.List.{All, AllPairs, find, list_any, range_with_len}
use Rattle.std.specs.Prelude.{Vec}
use Rattle.act_refs.specs.Cycle.{IsNext, IsReportedCycle, IsWayBack}
use Rattle.act_refs.specs.Distance.{IsDistance}
use Rattle.act_refs.specs.Ordered.{fewest_to, is_on_cycle, leads, next_to, reported_cycle, way_to}
use Rattle.act_refs.specs.Path.{HasNoCycle, IsChild, OnCycle, child_lists, children_of}
use Rattle.act_refs.proofs.Finding.{find_first, find_no_number, find_number}
use Rattle.act_refs.proofs.Leading.{leads-from_path, leads-none, passes, passing, path-from_leads}
use Rattle.act_refs.proofs.Paths.{HasPath-cons, HasPath-first, IsChild-within, children_of-read, length-child_lists, no_cycle-outside}

-- all children are contracts of the list
abbrev pub ChildrenExist : List (List ℕ) → Type 0
ChildrenExist graph = (parent child : ℕ) → IsChild graph parent child → child < length graph

pub children_exist : {A : Type 0} (children : List (Vec ℕ A)) → All (λ list. All (λ child. child < length children) list.items) children → ChildrenExist (child_lists children)
children_exist children exist = λ parent child refers.
    let within = IsChild-within (child_lists children) parent child refers in
    let size = length-child_lists children in
    let cases = slice_get_cases children parent in
    elim cases.1 [
      | inl found ↦
          let read = children_of-read children parent found.0 (sym found.3) found.1 in
          let below : All (λ c. c < length children) found.0.items = rw found.3 at (exist parent found.0 found.1) in
          let below₂ : All (λ c. c < length children) (children_of (child_lists children) parent) = rw read below in
          omega (arith, rw refers.2 at (below₂ refers.0 child refers.1))
      | inr past ↦ absurd (omega (arith, past.0))
    ]

-- contracts of the list, each once, are no more than there are
few_apart : (xs : List ℕ) (n : ℕ) → AllPairs (λ a b. a ≢ b) xs → All (λ c. c < n) xs → length xs ≤ n
few_apart xs n apart below =
    length-le_from_distinct_below xs n (IsDistinct-from_AllPairs Decides-eqb xs apart) (λ q has.
    let place = Contains-from_any eqb-true q xs has in
    rw place.2 at (below place.0 q place.1))

-- ---- shortest paths

-- the contracts on a shortest path
record IsOnShortest (graph : List (List ℕ)) (to distance : ℕ) (way : List ℕ) : Type 0 where
  size : length way ≡ suc distance
  apart : AllPairs (λ a b. a ≢ b) way
  exist : All (λ c. c < length graph) way
  near : All (λ c. (d : ℕ) × IsDistance graph c to d × (d ≤ distance)) way

-- ---- contracts on no cycle

on_cycle-within : (graph : List (List ℕ)) (contract : ℕ) → OnCycle graph contract → contract < length graph
on_cycle-within graph contract cycle =
    elim (cases_lt contract (length graph)) [
      | inl within ↦ within
      | inr outside ↦ absurd (no_cycle-outside graph contract outside cycle)
    ]

off_cycle : (graph : List (List ℕ)) (contract : ℕ) → ¬ (OnCycle graph contract) → is_on_cycle graph contract ≡ false
off_cycle graph contract off =
    let none = find_no_number (λ n. list_any (leads graph n contract) (children_of graph contract)) (length graph) (λ n lt.
    false_from_ne_true (list_any (leads graph n contract) (children_of graph contract)) (λ pass.
    let child = passing (leads graph n contract) graph contract pass in
    off (n, HasPath-cons graph n contract child.0 contract child.1 (path-from_leads graph n contract child.0 child.2)))) in
    rw none refl

pub reported_cycle-none : (graph : List (List ℕ)) → HasNoCycle graph → reported_cycle graph ≡ None
unfolding reported_cycle
reported_cycle-none graph none =
    let found = find_no_number (is_on_cycle graph) (length graph) (λ k lt. off_cycle graph k (none k)) in
    rw found refl

module _ (graph : List (List ℕ)) (exist : ChildrenExist graph) where
  module _ (to : ℕ) where
    -- from a child on the shortest path it is one reference less
    distance_less : (d from : ℕ) → IsDistance graph from to (suc d) → (child : ℕ) × IsChild graph from child × IsDistance graph child to d
    distance_less d from is =
        let step = HasPath-first graph d from to is.path in (
          step.0,
          step.1,
          record {
            path = step.2;
            shortest = λ n path. omega (arith, is.shortest (suc n) (HasPath-cons graph n from step.0 to step.1 path));
          },
        )

    shortest_way : (d from : ℕ) → from < length graph → IsDistance graph from to d → (way : List ℕ) × IsOnShortest graph to d way
    shortest_way zero from within is = (
      from ∷ [],
      record {
        size = refl;
        apart = λ i j d lt few. absurd (omega arith);
        exist = All-cons (λ c. c < length graph) from [] within (λ k d lt. absurd (omega arith));
        near = All-cons (λ c. (d : ℕ) × IsDistance graph c to d × (d ≤ 0)) from [] (0, is, omega arith) (λ k d lt. absurd (omega arith));
      },
    )
    shortest_way (suc d) from within is =
        let child = distance_less d from is in
        let rest = shortest_way d child.0 (exist from child.0 child.1) child.2 in (
          from ∷ rest.0,
          record {
            size = ap suc rest.1.size;
            apart = AllPairs-cons (λ a b. a ≢ b) from rest.0 (λ k e lt. λ same.
                let near = rest.1.near k e lt in
                omega (arith, is.shortest near.0 (rw (← same) at near.1.path), near.2)) rest.1.apart;
            exist = All-cons (λ c. c < length graph) from rest.0 within rest.1.exist;
            near = All-cons (λ c. (e : ℕ) × IsDistance graph c to e × (e ≤ suc d)) from rest.0 (suc d, is, omega arith) (λ k e lt.
                let near = rest.1.near k e lt in
                (near.0, near.1, omega (arith, near.2)));
          },
        )

    pub distance_bounded : (d from : ℕ) → from < length graph → IsDistance graph from to d → d < length graph
    distance_bounded d from within is =
        let way = shortest_way d from within is in
        omega (arith, few_apart way.0 (length graph) way.1.apart way.1.exist, way.1.size)

  -- ---- the next contract on a way

  module _ (goal contract next : ℕ) (is : IsNext graph goal contract next) where
    pub next_refers : IsChild graph contract next
    next_refers = (is.place, is.within, get_or_default (children_of graph contract) is.place next 0 is.within ∙ is.here)

    next_distance : IsDistance graph next goal is.distance
    next_distance = record { path = is.path; shortest = λ n path. is.fewest is.place n is.within (rw is.here path) }

    pub fewest_to-next : fewest_to graph goal contract ≡ Some is.distance
    fewest_to-next =
        find_number (λ n. list_any (leads graph n goal) (children_of graph contract)) (length graph) is.distance
        (distance_bounded goal is.distance next (exist contract next next_refers) next_distance)
        (passes (leads graph is.distance goal) graph contract next next_refers (leads-from_path graph is.distance goal next is.path))
        (λ k lt. false_from_ne_true (list_any (leads graph k goal) (children_of graph contract)) (λ pass.
        let child = passing (leads graph k goal) graph contract pass in
        let here = get_or_default (children_of graph contract) child.1.0 0 child.0 child.1.1 ∙ child.1.2 in
        omega (arith, is.fewest child.1.0 k child.1.1 (rw here (path-from_leads graph k goal child.0 child.2)))))

    pub next_to-next : next_to graph goal contract ≡ Some next
    next_to-next =
        let fewest = fewest_to-next in
        rw fewest (find_first (leads graph is.distance goal) (children_of graph contract) is.place 0 next is.within is.here (leads-from_path graph is.distance goal next is.path)
        (λ k lt. leads-none graph is.distance goal (get_or (children_of graph contract) k 0) (λ path. omega (arith, is.first k is.distance lt path))))

  -- ---- the whole way

  way_is : (goal : ℕ) (rest : List ℕ) (contract most : ℕ) → length (contract ∷ rest) ≤ most →
      ((k : ℕ) → k < length (contract ∷ rest) → IsNext graph goal (get_or (contract ∷ rest) k 0) (get_or ((contract ∷ rest) ++ goal ∷ []) (suc k) 0)) →
      All (λ c. c ≢ goal) rest → way_to graph goal most contract ≡ contract ∷ rest
  unfolding way_to
  way_is goal rest contract zero few steps others = absurd (omega arith)
  way_is goal [] contract (suc most) few steps others =
      let next = next_to-next goal contract goal (steps 0 (omega arith)) in
      rw next (ap (λ (cs : List ℕ). contract ∷ cs) (cond-true (eqb goal goal) [] (way_to graph goal most goal) (eq-eqb goal goal refl)))
  way_is goal (c ∷ rest) contract (suc most) few steps others =
      let next = next_to-next goal contract c (steps 0 (omega arith)) in
      rw next (ap (λ (cs : List ℕ). contract ∷ cs) (
      cond-false (eqb c goal) [] (way_to graph goal most c) (ne_eqb c goal (others 0 0 (omega arith)))
      ∙ way_is goal rest c most (omega arith) (λ k lt. steps (suc k) (omega arith)) (All-tail (λ c. c ≢ goal) c rest others)))

  way_back_is : (start : ℕ) (cycle : List ℕ) → IsWayBack graph start cycle → way_to graph start (length graph) start ≡ cycle
  way_back_is start [] way = absurd (omega (arith, way.some))
  way_back_is start (c ∷ rest) way =
      let starts : c ≡ start = way.starts in
      let steps : (k : ℕ) → k < length (c ∷ rest) → IsNext graph start (get_or (c ∷ rest) k 0) (get_or ((c ∷ rest) ++ start ∷ []) (suc k) 0) = λ k lt. rw add-one at (way.steps k lt) in
      let others : All (λ other. other ≢ start) rest = λ k d lt. λ same. way.once 0 (suc k) d (omega arith) (omega arith) (starts ∙ sym same) in
      let below : All (λ c. c < length graph) (c ∷ rest) = λ k d lt. rw (get_or_default (c ∷ rest) k d 0 lt) (IsChild-within graph (get_or (c ∷ rest) k 0) (get_or ((c ∷ rest) ++ start ∷ []) (suc k) 0) (next_refers start (get_or (c ∷ rest) k 0) (get_or ((c ∷ rest) ++ start ∷ []) (suc k) 0) (steps k lt))) in
      rw (← starts) (way_is c rest c (length graph) (few_apart (c ∷ rest) (length graph) way.once below) (rw (← starts) at steps) (rw (← starts) at others))

  -- ---- the cycle that is reported

  pub reported_cycle-is : (cycle : List ℕ) → IsReportedCycle graph cycle → reported_cycle graph ≡ Some cycle
  unfolding reported_cycle
  reported_cycle-is cycle is =
      let way = is.way in
      let first : IsNext graph is.start is.start (get_or (cycle ++ is.start ∷ []) 1 0) = rw way.starts at (way.steps 0 way.some) in
      let fewest = fewest_to-next is.start is.start (get_or (cycle ++ is.start ∷ []) 1 0) first in
      let found : find (is_on_cycle graph) (range_with_len 0 (length graph)) ≡ Some is.start =
      find_number (is_on_cycle graph) (length graph) is.start (on_cycle-within graph is.start is.on_cycle) (rw fewest refl)
      (λ k lt. off_cycle graph k (is.least k lt)) in
      rw found (ap Some (way_back_is is.start cycle way))

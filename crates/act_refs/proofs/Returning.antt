-- The way from a contract on a cycle back to it.
use Rattle.std.proofs.Common.{◌≡◌, ◌≢◌, ℕ, zero, suc, ◌+◌, ◌<◌, ◌≤◌, List, [], ◌∷◌, ◌++◌, length, get_or, Option, Some, None, MatchOption, inl, inr, refl, sym, ap, subst, ◌∙◌, arith, length-append}
use Rattle.std.proofs.lemmas.Bool.{cases_eq, cases_lt}
use Rattle.std.proofs.lemmas.List.{get_or_append_left, get_or_default, get_or_push}
use Rattle.std.proofs.lemmas.List.Quantifiers.{all_pairs_push}
use Rattle.std.proofs.lemmas.Option.{none-some, same_Some}
use Rattle.std.specs.List.{All, AllPairs, Contains}
use Rattle.act_refs.specs.Cycle.{IsNext, IsWayBack}
use Rattle.act_refs.specs.Distance.{AreDistances, AreDistancesTo, HaveNone, IsDistance, IsNearest, IsWithin}
use Rattle.act_refs.specs.Path.{HasPath, IsChild, OnCycle, children_of}
use Rattle.act_refs.specs.Turned.{IsTurned}
use Rattle.act_refs.proofs.Paths.{HasPath-cons, HasPath-first, HasPath-none, HasPath-nowhere, HasPath-turned, IsTurned-sym}

-- ---- distances, the other way round

turned_distance : (graph turned : List (List ℕ)) (a b : ℕ) (o : Option ℕ) → IsTurned graph turned → MatchOption o ((n : ℕ) → ¬ (HasPath turned n b a)) (IsDistance turned b a) → MatchOption o ((n : ℕ) → ¬ (HasPath graph n a b)) (IsDistance graph a b)
turned_distance graph turned a b None turn none = λ n path. none n (HasPath-turned graph turned turn n a b path)
turned_distance graph turned a b (Some d) turn is =
    record {
      path = HasPath-turned turned graph (IsTurned-sym graph turned turn) d b a is.path;
      shortest = λ n path. is.shortest n (HasPath-turned graph turned turn n a b path);
    }

pub turned_distances : (graph turned : List (List ℕ)) (to : ℕ) (distances : List (Option ℕ)) → IsTurned graph turned → length turned ≡ length graph → AreDistances turned to distances → AreDistancesTo graph to distances
turned_distances graph turned to distances turn same are =
    record {
      count = are.count ∙ same;
      each = λ a within. turned_distance graph turned a to (get_or distances a None) turn (are.each a (omega arith));
    }

module _ (graph : List (List ℕ)) (goal : ℕ) (distances : List (Option ℕ)) (are : AreDistancesTo graph goal distances) where
  some_path : (c : ℕ) (o : Option ℕ) → MatchOption o ((n : ℕ) → ¬ (HasPath graph n c goal)) (IsDistance graph c goal) → (d : ℕ) → o ≡ Some d → HasPath graph d c goal
  some_path c None is d some = absurd (none-some d some)
  some_path c (Some e) is d some = let same : e ≡ d = same_Some e d some in rw (← same) is.path

  -- a distance is the length of a path
  pub distance_path : (c d : ℕ) → c < length graph → get_or distances c None ≡ Some d → HasPath graph d c goal
  distance_path c d within is = some_path c (get_or distances c None) (are.each c within) d is

  some_within : (n c : ℕ) (o : Option ℕ) → MatchOption o ((n : ℕ) → ¬ (HasPath graph n c goal)) (IsDistance graph c goal) → HasPath graph n c goal → (d : ℕ) × (o ≡ Some d) × (d ≤ n)
  some_within n c None none path = absurd (none n path)
  some_within n c (Some e) is path = (e, refl, is.shortest n path)

  -- and no path is shorter
  pub path_within : (n c : ℕ) → c < length graph → HasPath graph n c goal → IsWithin distances n c
  path_within n c within path = some_within n c (get_or distances c None) (are.each c within) path

  -- the goal itself is at no distance
  pub goal_distance : goal < length graph → get_or distances goal None ≡ Some 0
  goal_distance within =
      let has = path_within 0 goal within (HasPath-none graph goal) in
      let zero_is : has.0 ≡ 0 = omega (arith, has.2) in
      has.1 ∙ ap Some zero_is

  -- ---- the nearest child

  pub nearest_next : (contract next distance : ℕ) (list : List ℕ) → list ≡ children_of graph contract → All (λ child. child < length graph) list → IsNearest list distances (length list) next distance → IsNext graph goal contract next
  nearest_next contract next distance list is exist near =
      let place_exists : next < length graph = rw near.here at (exist near.place 0 near.within) in
      record {
        place = near.place;
        distance = distance;
        within = rw (← is) near.within;
        here = rw (← is) near.here;
        path = distance_path next distance place_exists near.is;
        fewest = rw (← is) (λ k n lt path.
            let has = path_within n (get_or list k 0) (exist k 0 lt) path in
            omega (arith, near.fewest k has.0 lt has.1, has.2));
        first = rw (← is) (λ k n lt path.
            let has = path_within n (get_or list k 0) (exist k 0 (omega (arith, near.within))) path in
            omega (arith, near.first k has.0 lt has.1, has.2));
      }

  pub nearest_exists : (next distance : ℕ) (list : List ℕ) → All (λ child. child < length graph) list → IsNearest list distances (length list) next distance → next < length graph
  nearest_exists next distance list exist near = rw near.here at (exist near.place 0 near.within)

  -- of a path that goes on over a child: the child's place, and its distance
  child_within : (n contract child : ℕ) (list : List ℕ) → list ≡ children_of graph contract → All (λ child. child < length graph) list → IsChild graph contract child → HasPath graph n child goal → (k : ℕ) × (d : ℕ) × (k < length list) × (get_or distances (get_or list k 0) None ≡ Some d) × (d ≤ n)
  child_within n contract child list is exist refers path =
      let at : Contains list child = subst (λ (xs : List ℕ). Contains xs child) (sym is) refers in
      let same : get_or list at.0 0 ≡ child = get_or_default list at.0 0 child at.1 ∙ at.2 in
      let has : IsWithin distances n (get_or list at.0 0) = path_within n (get_or list at.0 0) (exist at.0 0 at.1) (subst (λ (c : ℕ). HasPath graph n c goal) (sym same) path) in
      (at.0, has.0, at.1, has.1, has.2)

  -- the nearest child is no farther
  pub nearest_within : (n contract child next distance : ℕ) (list : List ℕ) → list ≡ children_of graph contract → All (λ child. child < length graph) list → IsChild graph contract child → HasPath graph n child goal → IsNearest list distances (length list) next distance → distance ≤ n
  nearest_within n contract child next distance list is exist refers path near =
      let has = child_within n contract child list is exist refers path in
      omega (arith, near.fewest has.0 has.1 has.2 has.3, has.4)

  -- and there is one
  pub some_nearest : (n contract child : ℕ) (list : List ℕ) → list ≡ children_of graph contract → All (λ child. child < length graph) list → IsChild graph contract child → HasPath graph n child goal → ¬ (HaveNone list distances (length list))
  some_nearest n contract child list is exist refers path = λ none.
      let has = child_within n contract child list is exist refers path in
      none has.0 has.1 has.2 has.3

  -- so the goal is on a cycle exactly if there is a nearest child
  pub not_on_cycle : (list : List ℕ) → list ≡ children_of graph goal → All (λ child. child < length graph) list → HaveNone list distances (length list) → ¬ (OnCycle graph goal)
  not_on_cycle list is exist none = λ cycle.
      let step = HasPath-first graph cycle.0 goal goal cycle.1 in
      some_nearest cycle.0 goal step.0 list is exist step.1 step.2 none

-- a contract with a next one is on a cycle
pub next_on_cycle : (graph : List (List ℕ)) (goal next : ℕ) → IsNext graph goal goal next → OnCycle graph goal
next_on_cycle graph goal next is =
    let refers : IsChild graph goal next = (is.place, is.within, get_or_default (children_of graph goal) is.place next 0 is.within ∙ is.here) in
    (is.distance, HasPath-cons graph is.distance goal next goal refers is.path)

-- ---- the way so far

-- the contracts so far lead from the start to the next one, from which so many references lead back
pub record LeadsTo (graph : List (List ℕ)) (start : ℕ) (distances : List (Option ℕ)) (way : List ℕ) (next distance : ℕ) : Type 0 where
  pub some : 0 < length way
  pub starts : get_or way 0 0 ≡ start
  pub steps : (k : ℕ) → k < length way → IsNext graph start (get_or way k 0) (get_or (way ++ next ∷ []) (k + 1) 0)
  pub once : AllPairs (λ earlier later. earlier ≢ later) way
  pub exists : next < length graph
  pub is : get_or distances next None ≡ Some distance
  pub far : (k : ℕ) → 0 < k → k < length way → (d : ℕ) × (get_or distances (get_or way k 0) None ≡ Some d) × (distance < d)

module _ (graph : List (List ℕ)) (start : ℕ) (distances : List (Option ℕ)) (are : AreDistancesTo graph start distances) (within : start < length graph) where
  pub leads_start : (next distance : ℕ) → next < length graph → IsNext graph start start next → get_or distances next None ≡ Some distance → LeadsTo graph start distances (start ∷ []) next distance
  leads_start next distance exists step is =
      record {
        some = omega arith;
        starts = refl;
        steps = λ k lt. let first : k ≡ 0 = omega arith in rw first step;
        once = λ i j d lt few. absurd (omega arith);
        exists = exists;
        is = is;
        far = λ k pos lt. absurd (omega arith);
      }

  module _ (way : List ℕ) (next distance nearer less : ℕ) (list : List ℕ) (before : LeadsTo graph start distances way next distance) (more : 0 < distance) (same_list : list ≡ children_of graph next) (exist : All (λ child. child < length graph) list) where
    -- the rest of the shortest path
    rest : (n : ℕ) → n ≡ distance → (child : ℕ) × (m : ℕ) × IsChild graph next child × HasPath graph m child start × (m < distance)
    rest zero is = absurd (omega arith)
    rest (suc m) is =
        let step = HasPath-first graph m next start (rw is (distance_path graph start distances are next distance before.exists before.is)) in
        (step.0, m, step.1, step.2, omega arith)

    pub leads_on : ¬ (HaveNone list distances (length list))
    leads_on = let way_on = rest distance refl in some_nearest graph start distances are way_on.1 next way_on.0 list same_list exist way_on.2 way_on.3

    module _ (near : IsNearest list distances (length list) nearer less) where
      pub leads_nearer : less < distance
      leads_nearer =
          let way_on = rest distance refl in
          omega (arith, nearest_within graph start distances are way_on.1 next way_on.0 nearer less list same_list exist way_on.2 way_on.3 near, way_on.4)

      next_new : (k d : ℕ) → k < length way → get_or way k d ≢ next
      next_new k d lt = λ same.
          let read : get_or way k 0 ≡ next = get_or_default way k 0 d lt ∙ same in
          elim (cases_eq k 0) [
            | inl first ↦
                let at_start : start ≡ next = sym before.starts ∙ rw first at read in
                let none = same_Some 0 distance (sym (goal_distance graph start distances are within) ∙ rw (← at_start) at before.is) in
                omega arith
            | inr later ↦
                let has = before.far k (omega arith) lt in
                let same_distance = same_Some has.0 distance (sym has.1 ∙ rw (← read) at before.is) in
                omega (arith, has.2)
          ]

      old : (k : ℕ) → k < length way → get_or (way ++ next ∷ []) k 0 ≡ get_or way k 0
      old k lt = get_or_append_left way (next ∷ []) 0 k lt

      size : length (way ++ next ∷ []) ≡ length way + 1
      size = length-append way (next ∷ [])

      pub leads_more : LeadsTo graph start distances (way ++ next ∷ []) nearer less
      leads_more =
          record {
            some = omega (arith, size);
            starts = old 0 before.some ∙ before.starts;
            steps = λ k lt. elim (cases_lt k (length way)) [
              | inl less_k ↦ rw (old k less_k, get_or_append_left (way ++ next ∷ []) (nearer ∷ []) 0 (k + 1) (omega (arith, size))) (before.steps k less_k)
              | inr le ↦
                  let last : length way ≡ k = omega (arith, size) in
                  let last_more : length (way ++ next ∷ []) ≡ k + 1 = omega (arith, size) in
                  rw (get_or_push way next 0 k last, get_or_push (way ++ next ∷ []) nearer 0 (k + 1) last_more) (nearest_next graph start distances are next nearer less list same_list exist near)
            ];
            once = all_pairs_push (λ earlier later. earlier ≢ later) way next before.once next_new;
            exists = nearest_exists graph start distances are nearer less list exist near;
            is = near.is;
            far = λ k pos lt. elim (cases_lt k (length way)) [
              | inl less_k ↦ rw (old k less_k) (let has = before.far k pos less_k in (has.0, has.1, omega (arith, has.2, leads_nearer)))
              | inr le ↦
                  let last : length way ≡ k = omega (arith, size) in
                  rw (get_or_push way next 0 k last) (distance, before.is, leads_nearer)
            ];
          }

  -- the way is back at the start
  pub leads_back : (way : List ℕ) (next distance : ℕ) → LeadsTo graph start distances way next distance → distance ≡ 0 → IsWayBack graph start way
  leads_back way next distance all none =
      let here : next ≡ start = HasPath-nowhere graph next start (rw none at (distance_path graph start distances are next distance all.exists all.is)) in
      record {
        some = all.some;
        starts = all.starts;
        steps = rw here at all.steps;
        once = all.once;
      }

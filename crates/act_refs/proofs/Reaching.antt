-- Contracts are reached from one of them in the order of their distances.
use Rattle.std.proofs.Common.{◌≡◌, ◌≢◌, ℕ, zero, suc, ◌+◌, ◌<◌, ◌≤◌, true, false, List, [], ◌∷◌, ◌++◌, length, get_or, map, set, replicate, Option, Some, None, is_none, MatchOption, inl, inr, refl, sym, ap, ◌∙◌, arith, add-one, length-append}
use Rattle.std.proofs.lemmas.Bool.{cases_eq, cases_lt, eqb-true}
use Rattle.std.proofs.lemmas.Bool.Decides.{Decides-eqb}
use Rattle.std.proofs.lemmas.List.{get_or-map, get_or-set_other, get_or-set_same, get_or_append_left, get_or_default, get_or_past, get_or_push, length-map, length-replicate, length-set}
use Rattle.std.proofs.lemmas.List.Elements.{All-push, Contains-push}
use Rattle.std.proofs.lemmas.List.Quantifiers.{all_pairs_push}
use Rattle.std.proofs.lemmas.Map.Made.{IsDistinct-from_AllPairs}
use Rattle.std.proofs.lemmas.Map.Steps.{length-le_from_distinct_below}
use Rattle.std.proofs.lemmas.Map.Views.{Contains-from_any}
use Rattle.std.proofs.lemmas.Option.{none-some, same_Some}
use Rattle.std.specs.List.{All, AllPairs, Contains}
use Rattle.act_refs.specs.Distance.{AreDistances, IsDistance, IsReached, IsWithin, reached_at}
use Rattle.act_refs.specs.Path.{HasPath, IsChild, children_of}
use Rattle.act_refs.proofs.Paths.{HasPath-last, HasPath-none, HasPath-nowhere, HasPath-push}
use Rattle.act_refs.proofs.Settling.{known_or_not, none_known, unknown}

-- a contract of a known distance is in the list
pub known_within : (distances : List (Option ℕ)) (c d : ℕ) → get_or distances c None ≡ Some d → c < length distances
known_within distances c d is =
    elim (cases_lt c (length distances)) [
      | inl lt ↦ lt
      | inr le ↦ absurd (none-some d (sym (get_or_past distances c None le) ∙ is))
    ]

-- ---- the beginning

module _ (graph : List (List ℕ)) (n from : ℕ) (is : n ≡ length graph) (within : from < n) where
  abbrev first_distances : List (Option ℕ)
  first_distances = set (replicate n None) from (Some 0)

  at_from : get_or first_distances from None ≡ Some 0
  at_from = get_or-set_same (replicate n None) from (Some 0) None (omega (arith, length-replicate n unknown))

  only_from : (c d : ℕ) → get_or first_distances c None ≡ Some d → (c ≡ from) × (d ≡ 0)
  only_from c d some = elim (cases_eq c from) [
    | inl same ↦ (same, sym (same_Some 0 d (sym at_from ∙ (rw same at some))))
    | inr other ↦ absurd (none-some d (sym (get_or-set_other (replicate n None) from c (Some 0) None other ∙ none_known n c) ∙ some))
  ]

  pub reached_start : IsReached graph from first_distances ((from, 0) ∷ []) 0
  reached_start =
      record {
        count = length-set (replicate n unknown) from (Some 0) ∙ length-replicate n unknown ∙ is;
        starts = at_from;
        some = omega arith;
        begins = refl;
        sound = λ c d some. let same = only_from c d some in rw (same.0, same.1) (HasPath-none graph from);
        listed = λ c d some. let same = only_from c d some in rw (same.0, same.1) (0, omega arith, refl);
        known = λ k d lt. let first : k ≡ 0 = omega arith in rw first at_from;
        sorted = λ i j d lt few. absurd (omega arith);
        small = λ k lt. let first : k ≡ 0 = omega arith in rw first (omega arith);
        closed = λ k child lt. absurd (omega arith);
        near = λ lt k d few. let first : k ≡ 0 = omega arith in rw first (omega arith);
      }

-- ---- no more contracts are reached than there are

module _ (graph : List (List ℕ)) (from : ℕ) (distances : List (Option ℕ)) (reached : List (ℕ × ℕ)) (place : ℕ) (before : IsReached graph from distances reached place) where
  abbrev contracts : List ℕ
  contracts = map (λ (a : ℕ × ℕ). a.0) reached

  read : (k d : ℕ) → k < length reached → get_or contracts k d ≡ (get_or reached k (0, 0)).0
  read k d lt = get_or-map (λ (a : ℕ × ℕ). a.0) reached k (0, 0) d lt

  differ : AllPairs (λ a b. a ≢ b) contracts
  differ = λ i j d lt within. λ same.
      let size = length-map reached (λ (a : ℕ × ℕ). a.0) in
      (before.sorted i j (0, 0) lt (omega arith)).1 (sym (read i d (omega arith)) ∙ same ∙ read j d (omega arith))

  exists : (k : ℕ) → k < length reached → (get_or reached k (0, 0)).0 < length graph
  exists k lt = omega (arith, known_within distances (get_or reached k (0, 0)).0 (get_or reached k (0, 0)).1 (before.known k (0, 0) lt), before.count)

  pub reached_few : length reached ≤ length graph
  reached_few =
      let size = length-map reached (λ (a : ℕ × ℕ). a.0) in
      let few = length-le_from_distinct_below contracts (length graph) (IsDistinct-from_AllPairs Decides-eqb contracts differ) (λ q has.
      let place_of = Contains-from_any eqb-true q contracts has in
      let lt : place_of.0 < length reached = omega (arith, place_of.1) in
      rw (sym (read place_of.0 q lt) ∙ place_of.2) at (exists place_of.0 lt)) in
      omega arith

  -- the contract at a place is one of the list, and its distance is below their number
  pub reached_bounds : (c d : ℕ) → place < length reached → reached_at reached place ≡ (c, d) → (c < length graph) × (d < length graph)
  reached_bounds c d lt is = (rw is at (exists place lt), omega (arith, rw is at (before.small place lt), reached_few))

-- what `reached[place]` reads
pub reached_read : (reached : List (ℕ × ℕ)) (place : ℕ) (a : ℕ × ℕ) → a ≡ get_or reached place a → place < length reached → reached_at reached place ≡ a
reached_read reached place a is lt = get_or_default reached place (0, 0) a lt ∙ sym is

-- ---- a child is reached

module _ (graph : List (List ℕ)) (from : ℕ) (distances : List (Option ℕ)) (reached : List (ℕ × ℕ)) (place : ℕ) (before : IsReached graph from distances reached place) (lt : place < length reached) where
  abbrev here : ℕ × ℕ
  here = reached_at reached place

  module _ (child : ℕ) (refers : IsChild graph here.0 child) (exists : child < length graph) (none : get_or distances child None ≡ None) where
    abbrev new_distances : List (Option ℕ)
    new_distances = set distances child (Some (here.1 + 1))

    abbrev new_reached : List (ℕ × ℕ)
    new_reached = reached ++ (child, here.1 + 1) ∷ []

    at_child : get_or new_distances child None ≡ Some (here.1 + 1)
    at_child = get_or-set_same distances child (Some (here.1 + 1)) None (omega (arith, before.count))

    elsewhere : (c : ℕ) → c ≢ child → get_or new_distances c None ≡ get_or distances c None
    elsewhere c other = get_or-set_other distances child c (Some (here.1 + 1)) None other

    still : (c d : ℕ) → get_or distances c None ≡ Some d → get_or new_distances c None ≡ Some d
    still c d some = elim (cases_eq c child) [
      | inl same ↦ absurd (none-some d (sym none ∙ (rw same at some)))
      | inr other ↦ elsewhere c other ∙ some
    ]

    kept : (a : ℕ × ℕ) → Contains reached a → Contains new_reached a
    kept a has = (has.0, omega (arith, has.1, length-append reached ((child, here.1 + 1) ∷ [])), get_or_append_left reached ((child, here.1 + 1) ∷ []) a has.0 has.1 ∙ has.2)

    old : (k : ℕ) → k < length reached → reached_at new_reached k ≡ reached_at reached k
    old k few = get_or_append_left reached ((child, here.1 + 1) ∷ []) (0, 0) k few

    pub still_within : (bound c : ℕ) → IsWithin distances bound c → IsWithin new_distances bound c
    still_within bound c has = (has.0, still c has.0 has.1, has.2)

    pub child_within : IsWithin new_distances (here.1 + 1) child
    child_within = (here.1 + 1, at_child, omega arith)

    pub same_here : reached_at new_reached place ≡ here
    same_here = old place lt

    pub reached_more : IsReached graph from new_distances new_reached place
    reached_more =
        record {
          count = length-set distances child (Some (here.1 + 1)) ∙ before.count;
          starts = still from 0 before.starts;
          some = omega (arith, before.some, length-append reached ((child, here.1 + 1) ∷ []));
          begins = old 0 before.some ∙ before.begins;
          sound = λ c d some. elim (cases_eq c child) [
            | inl same ↦
                let is : here.1 + 1 ≡ d = same_Some (here.1 + 1) d (sym at_child ∙ (rw same at some)) in
                rw (same, ← is, add-one) (HasPath-push graph here.1 from here.0 child (before.sound here.0 here.1 (before.known place (0, 0) lt)) refers)
            | inr other ↦ before.sound c d (sym (elsewhere c other) ∙ some)
          ];
          listed = λ c d some. elim (cases_eq c child) [
            | inl same ↦
                let is : here.1 + 1 ≡ d = same_Some (here.1 + 1) d (sym at_child ∙ (rw same at some)) in
                rw (same, ← is) (Contains-push reached (child, here.1 + 1))
            | inr other ↦ kept (c, d) (before.listed c d (sym (elsewhere c other) ∙ some))
          ];
          known = All-push (λ (a : ℕ × ℕ). get_or new_distances a.0 None ≡ Some a.1) reached (child, here.1 + 1)
              (λ k d few. still (get_or reached k d).0 (get_or reached k d).1 (before.known k d few))
              at_child;
          sorted = all_pairs_push (λ (a b : ℕ × ℕ). (a.1 ≤ b.1) × (a.0 ≢ b.0)) reached (child, here.1 + 1) before.sorted
              (λ k d few. (before.near lt k d few, λ same. none-some (get_or reached k d).1 (sym none ∙ (rw same at (before.known k d few)))));
          small = λ k few. elim (cases_lt k (length reached)) [
            | inl less ↦ rw (old k less) (before.small k less)
            | inr le ↦
                let last : length reached ≡ k = omega (arith, length-append reached ((child, here.1 + 1) ∷ [])) in
                rw (get_or_push reached (child, here.1 + 1) (0, 0) k last) (omega (arith, before.small place lt))
          ];
          closed = λ k other less is.
              let same = old k (omega arith) in
              rw same (still_within ((reached_at reached k).1 + 1) other (before.closed k other less (rw same at is)));
          near = λ _. rw same_here (All-push (λ (a : ℕ × ℕ). a.1 ≤ here.1 + 1) reached (child, here.1 + 1) (before.near lt) (omega arith));
        }

  -- ---- all children of a contract are reached

  pub reached_next : All (IsWithin distances (here.1 + 1)) (children_of graph here.0) → IsReached graph from distances reached (place + 1)
  reached_next all =
      record {
        count = before.count;
        starts = before.starts;
        some = before.some;
        begins = before.begins;
        sound = before.sound;
        listed = before.listed;
        known = before.known;
        sorted = before.sorted;
        small = before.small;
        closed = λ k child less refers. elim (cases_eq k place) [
          | inl same ↦ rw same (rw (rw same at refers).2 at (all (rw same at refers).0 child (rw same at refers).1))
          | inr other ↦ before.closed k child (omega arith) refers
        ];
        near = λ few k d less. omega (arith, before.near lt k d less, (before.sorted place (place + 1) (0, 0) (omega arith) few).0);
      }

-- ---- the children of a contract, one after the other

-- the contract at a place is this one, and those of its children that are looked at are reached
pub record ReachesFrom (graph : List (List ℕ)) (from : ℕ) (distances : List (Option ℕ)) (reached : List (ℕ × ℕ)) (place contract distance : ℕ) (children : List ℕ) : Type 0 where
  pub state : IsReached graph from distances reached place
  pub more : place < length reached
  pub here : reached_at reached place ≡ (contract, distance)
  pub within : All (IsWithin distances (distance + 1)) children

module _ (graph : List (List ℕ)) (from : ℕ) (distances : List (Option ℕ)) (reached : List (ℕ × ℕ)) (place contract distance child : ℕ) (children : List ℕ) (before : ReachesFrom graph from distances reached place contract distance children) where
  -- the next child wasn't reached
  pub reaches_more : IsChild graph contract child → child < length graph → is_none (get_or distances child None) ≡ true → ReachesFrom graph from (set distances child (Some (distance + 1))) (reached ++ (child, distance + 1) ∷ []) place contract distance (children ++ child ∷ [])
  reaches_more refers exists none =
      let unreached : get_or distances child None ≡ None = grind (arith, none) in
      let at : (reached_at reached place).1 ≡ distance = ap (λ (a : ℕ × ℕ). a.1) before.here in
      let is : IsChild graph (reached_at reached place).0 child = rw before.here refers in
      record {
        state = rw (← at) (reached_more graph from distances reached place before.state before.more child is exists unreached);
        more = omega (arith, before.more, length-append reached ((child, distance + 1) ∷ []));
        here = rw (← at) (same_here graph from distances reached place before.state before.more child is exists unreached) ∙ before.here;
        within = rw (← at) (All-push (IsWithin (set distances child (Some ((reached_at reached place).1 + 1))) ((reached_at reached place).1 + 1)) children child
            (λ k d less. still_within graph from distances reached place before.state before.more child is exists unreached ((reached_at reached place).1 + 1) (get_or children k d) (rw at (before.within k d less)))
            (child_within graph from distances reached place before.state before.more child is exists unreached));
      }

  -- or it was
  pub reaches_already : is_none (get_or distances child None) ≡ false → ReachesFrom graph from distances reached place contract distance (children ++ child ∷ [])
  reaches_already some =
      record {
        state = before.state;
        more = before.more;
        here = before.here;
        within = All-push (IsWithin distances (distance + 1)) children child before.within (elim (known_or_not (get_or distances child None)) [
          | inl none ↦ absurd (grind (arith, some, none))
          | inr known ↦
              let has = before.state.listed child known.0 known.1 in
              let near = rw (has.2, before.here) at (before.state.near before.more has.0 (child, known.0) has.1) in
              (known.0, known.1, near)
        ]);
      }

-- all its children are
pub reaches_done : (graph : List (List ℕ)) (from : ℕ) (distances : List (Option ℕ)) (reached : List (ℕ × ℕ)) (place contract distance : ℕ) (children : List ℕ) → ReachesFrom graph from distances reached place contract distance children → children ≡ children_of graph contract → IsReached graph from distances reached (place + 1)
reaches_done graph from distances reached place contract distance children all is =
    reached_next graph from distances reached place all.state all.more (rw all.here (rw (← is) all.within))

-- ---- all contracts are reached that can be

module _ (graph : List (List ℕ)) (from : ℕ) (distances : List (Option ℕ)) (reached : List (ℕ × ℕ)) (place : ℕ) (all : IsReached graph from distances reached place) (done : length reached ≤ place) where
  child_closed : (c d child : ℕ) → get_or distances c None ≡ Some d → IsChild graph c child → IsWithin distances (d + 1) child
  child_closed c d child some refers =
      let has = all.listed c d some in
      let at : reached_at reached has.0 ≡ (c, d) = get_or_default reached has.0 (0, 0) (c, d) has.1 ∙ has.2 in
      let less : has.0 < place = omega (arith, has.1) in
      rw at at (all.closed has.0 child less (rw at refers))

  -- a path leads to no contract that is farther
  path_within : (n c : ℕ) → HasPath graph n from c → IsWithin distances n c
  path_within zero c path =
      let same : from ≡ c = HasPath-nowhere graph from c path in
      rw (← same) (0, all.starts, omega arith)
  path_within (suc n) c path =
      let step = HasPath-last graph n from c path in
      let before = path_within n step.0 step.1 in
      let after = child_closed step.0 before.0 c before.1 step.2 in
      (after.0, after.1, omega (arith, after.2, before.2))

  distance_at : (c : ℕ) (o : Option ℕ) → get_or distances c None ≡ o → MatchOption o ((n : ℕ) → ¬ (HasPath graph n from c)) (IsDistance graph from c)
  distance_at c None is = λ n path. let near = path_within n c path in none-some near.0 (sym is ∙ near.1)
  distance_at c (Some d) is =
      record {
        path = all.sound c d is;
        shortest = λ n path.
            let near = path_within n c path in
            let same : d ≡ near.0 = same_Some d near.0 (sym is ∙ near.1) in
            omega (arith, near.2);
      }

  pub reached_all : AreDistances graph from distances
  reached_all = record { count = all.count; each = λ c within. distance_at c (get_or distances c None) refl }

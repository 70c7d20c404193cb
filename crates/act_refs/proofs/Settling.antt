-- Contracts are settled one after the other, in each round those of one more depth.
use Rattle.std.proofs.Common.{◌≡◌, ◌≢◌, ℕ, suc, ◌+◌, ◌<◌, ◌≤◌, ◌⊎◌, Bool, true, false, List, [], ◌∷◌, ◌++◌, length, get_or, set, replicate, Option, Some, None, is_none, inl, inr, refl, sym, subst, ◌∙◌, arith, add-one, length-append}
use Rattle.std.proofs.lemmas.Bool.{and_cases, cases_eq, cases_lt, ltb-false, ltb-true}
use Rattle.std.proofs.lemmas.List.{get_or-replicate, get_or-set_other, get_or-set_same, get_or_append_left, get_or_past, length-replicate, length-set}
use Rattle.std.proofs.lemmas.List.Elements.{All-push, Contains-push}
use Rattle.std.proofs.lemmas.List.Quantifiers.{all_pairs_push}
use Rattle.std.proofs.lemmas.List.Sums.{AllPass-from_list_all}
use Rattle.std.proofs.lemmas.Option.{none-some, same_Some}
use Rattle.std.specs.List.{All, Contains, list_all}
use Rattle.act_refs.specs.Order.{ComesBefore}
use Rattle.act_refs.specs.Path.{HasChain, HasDepth, IsChild, children_of}
use Rattle.act_refs.specs.Settled.{AreSettled, is_below}
use Rattle.act_refs.proofs.Depths.{HasChain-one, HasChain-parent, HasChain-shorter, HasDepth-settles}

-- ---- the test of a contract's children

pub known_or_not : (o : Option ℕ) → (o ≡ None) ⊎ ((d : ℕ) × (o ≡ Some d))
known_or_not None = inl refl
known_or_not (Some d) = inr (d, refl)

below-true : (depth : ℕ) (o : Option ℕ) → is_below depth o ≡ true → (d : ℕ) × (o ≡ Some d) × (d < depth)
below-true depth None is = cc
below-true depth (Some d) is = (d, refl, ltb-true d depth is)

below-false : (depth d : ℕ) (o : Option ℕ) → is_below depth o ≡ false → o ≡ Some d → depth ≤ d
below-false depth d None is known = absurd (none-some d known)
below-false depth d (Some e) is known = let same : e ≡ d = same_Some e d known in omega (arith, ltb-false e depth is)

-- where not all pass a test there is one that doesn't
pub some_fails : (p : ℕ → Bool) (xs : List ℕ) → list_all p xs ≡ false → (x : ℕ) × Contains xs x × (p x ≡ false)
some_fails p [] is = cc
some_fails p (x ∷ xs) is =
    elim (and_cases (p x) (list_all p xs) is) [
      | inl fails ↦ (x, (0, omega arith, refl), fails)
      | inr later ↦
          let found = some_fails p xs later in
          (found.0, (suc found.1.0, omega (arith, found.1.1), found.1.2), found.2)
    ]

-- ---- the beginning

abbrev pub unknown : Option ℕ
unknown = None

pub none_known : (n c : ℕ) → get_or (replicate n unknown) c unknown ≡ unknown
none_known n c =
    elim (cases_lt c n) [
      | inl lt ↦ get_or-replicate n c unknown unknown lt
      | inr le ↦ get_or_past (replicate n unknown) c unknown (omega (arith, length-replicate n unknown))
    ]

pub settled-start : (graph : List (List ℕ)) (n : ℕ) → n ≡ length graph → AreSettled graph 1 0 (replicate n None) []
settled-start graph n is =
    record {
      count = length-replicate n unknown ∙ is;
      known = λ c d some. absurd (none-some d (sym (none_known n c) ∙ some));
      passed = λ c lt within none. absurd (omega arith);
      ahead = λ c le within none. HasChain-one graph c;
      each = λ c d some. absurd (none-some d (sym (none_known n c) ∙ some));
      only = λ k d lt. absurd (omega arith);
      sorted = λ i j d lt within. absurd (omega arith);
    }

-- ---- the steps

module _ (graph : List (List ℕ)) (depth place : ℕ) (depths : List (Option ℕ)) (order : List ℕ) (before : AreSettled graph depth place depths order) where
  -- a contract whose depth was known before
  pub settled-known : (d : ℕ) → get_or depths place None ≡ Some d → AreSettled graph depth (place + 1) depths order
  settled-known d is =
      record {
        count = before.count;
        known = λ c e some. (
          (before.known c e some).0,
          elim (before.known c e some).1 [ inl lt ↦ inl lt | inr tie ↦ inr (tie.0, omega (arith, tie.1)) ],
        );
        passed = λ c lt within none. elim (cases_eq c place) [
          | inl same ↦ absurd (none-some d (sym (rw same at none) ∙ is))
          | inr other ↦ before.passed c (omega arith) within none
        ];
        ahead = λ c le within none. before.ahead c (omega arith) within none;
        each = before.each;
        only = before.only;
        sorted = before.sorted;
      }

  -- a chain of this depth starts at a child that isn't settled before this depth
  child_chain : (child : ℕ) → 1 ≤ depth → child < length graph → is_below depth (get_or depths child None) ≡ false → HasChain graph child depth
  child_chain child some within fails =
      elim (known_or_not (get_or depths child None)) [
        | inl none ↦ elim (cases_lt child place) [
          | inl lt ↦ HasChain-shorter graph child depth some (before.passed child lt within none)
          | inr le ↦ before.ahead child le within none
        ]
        | inr known ↦
            let has = before.known child known.0 known.1 in
            let deep = below-false depth known.0 (get_or depths child None) fails known.1 in
            let same : known.0 ≡ depth = elim has.1 [ inl lt ↦ omega arith | inr tie ↦ tie.0 ] in
            rw same at has.0.chain
      ]

  -- a contract that is deeper
  pub settled-deeper : (child : ℕ) → 1 ≤ depth → get_or depths place None ≡ None → IsChild graph place child → child < length graph → is_below depth (get_or depths child None) ≡ false → AreSettled graph depth (place + 1) depths order
  settled-deeper child some is refers within fails =
      record {
        count = before.count;
        known = λ c e known. (
          (before.known c e known).0,
          elim (before.known c e known).1 [ inl lt ↦ inl lt | inr tie ↦ inr (tie.0, omega (arith, tie.1)) ],
        );
        passed = λ c lt c_within none. elim (cases_eq c place) [
          | inl same ↦ rw (same, add-one) (HasChain-parent graph place child depth refers (child_chain child some within fails))
          | inr other ↦ before.passed c (omega arith) c_within none
        ];
        ahead = λ c le c_within none. before.ahead c (omega arith) c_within none;
        each = before.each;
        only = before.only;
        sorted = before.sorted;
      }

  -- a contract of this depth
  module _ (is : get_or depths place None ≡ None) (within : place < length graph) (below : All (λ c. is_below depth (get_or depths c None) ≡ true) (children_of graph place)) where
    place_depth : HasDepth graph place depth
    place_depth =
        HasDepth-settles graph place depth (before.ahead place (omega arith) within is) (λ child refers.
        let passes : is_below depth (get_or depths child None) ≡ true = rw refers.2 at (below refers.0 child refers.1) in
        let known = below-true depth (get_or depths child None) passes in
        (known.0, (before.known child known.0 known.1).0, known.2))

    last : (k d : ℕ) → k < length order → ComesBefore graph (get_or order k d) place
    last k d lt =
        let known = before.only k d lt in
        let has = before.known (get_or order k d) known.0 known.1 in
        record {
          depth = known.0;
          later_depth = depth;
          has = has.0;
          later_has = place_depth;
          less = has.1;
        }

    here : get_or (set depths place (Some depth)) place None ≡ Some depth
    here = get_or-set_same depths place (Some depth) None (omega (arith, before.count))

    elsewhere : (c : ℕ) → c ≢ place → get_or (set depths place (Some depth)) c None ≡ get_or depths c None
    elsewhere c other = get_or-set_other depths place c (Some depth) None other

    kept : (c : ℕ) → Contains order c → Contains (order ++ place ∷ []) c
    kept c has =
        (has.0, omega (arith, has.1, length-append order (place ∷ [])), get_or_append_left order (place ∷ []) c has.0 has.1 ∙ has.2)

    still : (c d : ℕ) → get_or depths c None ≡ Some d → get_or (set depths place (Some depth)) c None ≡ Some d
    still c d some =
        elim (cases_eq c place) [
          | inl same ↦ absurd (none-some d (sym is ∙ (rw same at some)))
          | inr other ↦ elsewhere c other ∙ some
        ]

    pub settled-push : AreSettled graph depth (place + 1) (set depths place (Some depth)) (order ++ place ∷ [])
    settled-push =
        record {
          count = length-set depths place (Some depth) ∙ before.count;
          known = λ c e some. elim (cases_eq c place) [
            | inl same ↦
                let e_is : depth ≡ e = same_Some depth e (sym here ∙ (rw same at some)) in
                (rw (same, ← e_is) place_depth, inr (sym e_is, omega arith))
            | inr other ↦
                let had = before.known c e (sym (elsewhere c other) ∙ some) in
                (had.0, elim had.1 [ inl lt ↦ inl lt | inr tie ↦ inr (tie.0, omega (arith, tie.1)) ])
          ];
          passed = λ c lt c_within none. elim (cases_eq c place) [
            | inl same ↦ absurd (none-some depth (sym (rw same at none) ∙ here))
            | inr other ↦ before.passed c (omega arith) c_within (sym (elsewhere c other) ∙ none)
          ];
          ahead = λ c le c_within none. before.ahead c (omega arith) c_within (sym (elsewhere c (omega arith)) ∙ none);
          each = λ c e some. elim (cases_eq c place) [
            | inl same ↦ rw same (Contains-push order place)
            | inr other ↦ kept c (before.each c e (sym (elsewhere c other) ∙ some))
          ];
          only = All-push (λ c. (d : ℕ) × (get_or (set depths place (Some depth)) c None ≡ Some d)) order place
              (λ k d lt. let known = before.only k d lt in (known.0, still (get_or order k d) known.0 known.1))
              (depth, here);
          sorted = all_pairs_push (ComesBefore graph) order place before.sorted last;
        }

-- the two outcomes of the test of a contract whose depth wasn't known, by the list that was tested
module _ (graph : List (List ℕ)) (depth place : ℕ) (depths : List (Option ℕ)) (order : List ℕ) (before : AreSettled graph depth place depths order) where
  module _ (none : is_none (get_or depths place None) ≡ true) (list : List ℕ) (is : list ≡ children_of graph place) where
    unknown_place : get_or depths place None ≡ None
    unknown_place = grind (arith, none)

    pub settled-ready : place < length graph → list_all (λ c. is_below depth (get_or depths c None)) list ≡ true → AreSettled graph depth (place + 1) (set depths place (Some depth)) (order ++ place ∷ [])
    settled-ready within pass =
        let below = AllPass-from_list_all (λ c. is_below depth (get_or depths c None)) list pass in
        settled-push graph depth place depths order before unknown_place within (rw is at below)

    pub settled-unready : 1 ≤ depth → All (λ c. c < length graph) list → list_all (λ c. is_below depth (get_or depths c None)) list ≡ false → AreSettled graph depth (place + 1) depths order
    settled-unready some exist fails =
        let failing = some_fails (λ c. is_below depth (get_or depths c None)) list fails in
        let within : failing.0 < length graph = rw failing.1.2 at (exist failing.1.0 failing.0 failing.1.1) in
        let refers : IsChild graph place failing.0 = subst (λ (xs : List ℕ). Contains xs failing.0) is failing.1 in
        settled-deeper graph depth place depths order before failing.0 some unknown_place refers within failing.2

  pub settled-already : is_none (get_or depths place None) ≡ false → AreSettled graph depth (place + 1) depths order
  settled-already some =
      elim (known_or_not (get_or depths place None)) [
        | inl none ↦ absurd (grind (arith, some))
        | inr known ↦ settled-known graph depth place depths order before known.0 known.1
      ]

-- ---- the next round

pub settled-next : (graph : List (List ℕ)) (depth : ℕ) (depths : List (Option ℕ)) (order : List ℕ) → AreSettled graph depth (length graph) depths order → AreSettled graph (depth + 1) 0 depths order
settled-next graph depth depths order all =
    record {
      count = all.count;
      known = λ c d some.
          let had = all.known c d some in
          (had.0, inl (elim had.1 [ inl lt ↦ omega arith | inr tie ↦ omega (arith, tie.0) ]));
      passed = λ c lt within none. absurd (omega arith);
      ahead = λ c le within none. all.passed c within within none;
      each = all.each;
      only = all.only;
      sorted = all.sorted;
    }

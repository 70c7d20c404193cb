-- References are turned around.
use Rattle.std.proofs.Common.{◌≡◌, ℕ, ◌+◌, ◌<◌, List, [], ◌∷◌, ◌++◌, length, get_or, set, take, drop, inl, inr, sym, subst, ◌∙◌, arith}
use Rattle.std.proofs.lemmas.Bool.{cases_eq}
use Rattle.std.proofs.lemmas.List.{append-nil, drop_all, take_all, get_or-set_other, get_or-set_same, get_or_append_left, get_or_default, length-append, map-set}
use Rattle.std.proofs.lemmas.Option.{slice_get_cases}
use Rattle.std.proofs.lemmas.List.Elements.{Contains-push, Contains-push_cases}
use Rattle.std.specs.List.{All, Contains}
use Rattle.std.specs.Prelude.{Vec}
use Rattle.act_refs.specs.Path.{IsChild, child_lists, children_of}
use Rattle.act_refs.specs.Turned.{AddsParent, IsTurned}
use Rattle.act_refs.proofs.Paths.{IsChild-within, children_of-read, length-child_lists}

-- ---- one contract is added to its children's parents

kept_by_push : (xs : List ℕ) (y x : ℕ) → Contains xs x → Contains (xs ++ y ∷ []) x
kept_by_push xs y x has = (has.0, omega (arith, has.1, length-append xs (y ∷ [])), get_or_append_left xs (y ∷ []) x has.0 has.1 ∙ has.2)

module _ (before between after : List (List ℕ)) (children : List ℕ) (parent child : ℕ) (adds : AddsParent before between children parent) (exists : child < length between) (is : after ≡ set between child (children_of between child ++ parent ∷ [])) where
  here : children_of after child ≡ children_of between child ++ parent ∷ []
  here = rw is (get_or-set_same between child (children_of between child ++ parent ∷ []) [] exists)

  elsewhere : (c : ℕ) → (c ≡ child → ⊥) → children_of after c ≡ children_of between c
  elsewhere c other = rw is (get_or-set_other between child c (children_of between child ++ parent ∷ []) [] other)

  still : (c other : ℕ) → IsChild between c other → IsChild after c other
  still c other has = elim (cases_eq c child) [
    | inl same ↦ rw (same, here) (kept_by_push (children_of between child) parent other (rw same at has))
    | inr different ↦ rw (elsewhere c different) has
  ]

  pub adds_more : AddsParent before after (children ++ child ∷ []) parent
  adds_more =
      record {
        kept = λ c other has. still c other (adds.kept c other has);
        added = λ c has. elim (Contains-push_cases children child c has) [
          | inl old ↦ still c parent (adds.added c old)
          | inr same ↦ rw (← same, here) (Contains-push (children_of between child) parent)
        ];
        only = λ c other has. elim (cases_eq c child) [
          | inl same ↦ elim (Contains-push_cases (children_of between child) parent other (rw here at (rw same at has))) [
            | inl old ↦ elim (adds.only c other (rw same old)) [
              | inl was ↦ inl was
              | inr new ↦ inr (new.0, kept_by_push children child c new.1)
            ]
            | inr new ↦ inr (sym new, rw same (Contains-push children child))
          ]
          | inr different ↦ elim (adds.only c other (rw (elsewhere c different) at has)) [
            | inl was ↦ inl was
            | inr new ↦ inr (new.0, kept_by_push children child c new.1)
          ]
        ];
      }

-- what a push to one of the lists does
pub child_lists-push : {A : Type 0} (lists : List (Vec ℕ A)) (child parent : ℕ) (before after : Vec ℕ A) → before ≡ get_or lists child before → child < length lists → after.items ≡ before.items ++ parent ∷ [] → child_lists (set lists child after) ≡ set (child_lists lists) child (children_of (child_lists lists) child ++ parent ∷ [])
child_lists-push lists child parent before after is within pushed =
    rw (children_of-read lists child before is within, ← pushed) (unfold child_lists in map-set (λ v. v.items) lists child after)

-- what a list is that was lent as a whole
pub written_back : {A : Type 0} (n : ℕ) (new old : List A) → length new ≡ length old → n ≡ length old → take n (new ++ drop (length new) old) ≡ new
written_back n new old same is =
    let none : drop (length new) old ≡ [] = drop_all (length new) old (omega arith) in
    rw (none, append-nil) (take_all n new (omega arith))

-- ---- all contracts are, one after the other

-- the references of the contracts before a place are turned around
pub record TurnedBelow (graph turned : List (List ℕ)) (place : ℕ) : Type 0 where
  pub to : (parent child : ℕ) → parent < place → IsChild graph parent child → IsChild turned child parent
  pub from : (parent child : ℕ) → IsChild turned child parent → (parent < place) × IsChild graph parent child

-- lists that are empty have no children
no_child : {A : Type 0} (lists : List (Vec ℕ A)) (child parent : ℕ) → All (λ list. length list.items ≡ 0) lists → ¬ (IsChild (child_lists lists) child parent)
no_child lists child parent empty = λ is.
    let within = IsChild-within (child_lists lists) child parent is in
    let size = length-child_lists lists in
    let cases = slice_get_cases lists child in
    elim cases.1 [
      | inl found ↦
          let read = children_of-read lists child found.0 (sym found.3) found.1 in
          let none : length found.0.items ≡ 0 = rw found.3 at (empty child found.0 found.1) in
          let some : is.0 < length (children_of (child_lists lists) child) = is.1 in
          omega (arith, none, rw read at some)
      | inr past ↦ omega (arith, past.0)
    ]

pub turned_start : {A : Type 0} (graph : List (List ℕ)) (lists : List (Vec ℕ A)) → All (λ list. length list.items ≡ 0) lists → TurnedBelow graph (child_lists lists) 0
turned_start graph lists empty =
    record {
      to = λ parent child lt is. absurd (omega arith);
      from = λ parent child is. absurd (no_child lists child parent empty is);
    }

pub turned_more : (graph before after : List (List ℕ)) (place : ℕ) (list : List ℕ) → TurnedBelow graph before place → AddsParent before after list place → list ≡ children_of graph place → TurnedBelow graph after (place + 1)
turned_more graph before after place list below adds is =
    record {
      to = λ parent child lt refers. elim (cases_eq parent place) [
        | inl same ↦ rw same (adds.added child (rw is (rw same at refers)))
        | inr other ↦ adds.kept child parent (below.to parent child (omega arith) refers)
      ];
      from = λ parent child refers. elim (adds.only child parent refers) [
        | inl was ↦ let old = below.from parent child was in (omega (arith, old.0), old.1)
        | inr new ↦ (omega (arith, new.0), rw new.0 (rw is at new.1))
      ];
    }

pub turned_all : (graph turned : List (List ℕ)) (n : ℕ) → n ≡ length graph → TurnedBelow graph turned n → IsTurned graph turned
turned_all graph turned n is all = λ parent child.
    (λ refers. all.to parent child (omega (arith, IsChild-within graph parent child refers)) refers, λ refers. (all.from parent child refers).1)

-- lists whose children are all below a number
pub lists_below : {A : Type 0} (lists : List (Vec ℕ A)) (n : ℕ) → ((parent child : ℕ) → IsChild (child_lists lists) parent child → child < n) → All (λ list. All (λ child. child < n) list.items) lists
lists_below lists n below = λ k d lt j e few.
    let list = get_or lists k d in
    let read = children_of-read lists k list (get_or_default lists k d list lt) lt in
    let child = get_or list.items j e in
    let has : Contains list.items child = (j, few, get_or_default list.items j child e few) in
    below k child (subst (λ (xs : List ℕ). Contains xs child) (sym read) has)

pub turned_exist : {A : Type 0} (graph : List (List ℕ)) (lists : List (Vec ℕ A)) (n : ℕ) → n ≡ length graph → IsTurned graph (child_lists lists) → All (λ list. All (λ child. child < n) list.items) lists
turned_exist graph lists n is turn =
    lists_below lists n (λ child parent refers. omega (arith, IsChild-within graph parent child ((turn parent child).1 refers)))

-- The steps of the callers of a journal, and those of their scripts.
use Rattle.std.proofs.Common.{◌≡◌, ◌≢◌, ℕ, zero, suc, ◌+◌, ◌-◌, ◌<◌, ◌≤◌, ◌==◌, Bool, true, false, inl, inr, List, [], ◌∷◌, ◌++◌, get_or, length, length-append, map, set, take, Option, Some, None, IsSome, refl, sym, ap, subst, ◌∙◌, append-nil, drop, arith}
use Rattle.std.specs.List.{All, slice_get}
use Rattle.std.specs.Option.{option_and_then}
use Rattle.std.specs.Prelude.{not, slice_index}
use Rattle.std.proofs.lemmas.Bool.{eqb-true, eq-eqb}
use Rattle.std.proofs.lemmas.Grind.{get_or-set_at}
use Rattle.std.proofs.lemmas.List.{get_or-set_other, length-map, length-take, map-append, take-append-drop, take_all, take_more}
use Rattle.std.proofs.lemmas.List.Elements.{filter-append}
use Rattle.std.proofs.lemmas.List.Filters.{length-filter_both}
use Rattle.std.proofs.lemmas.Option.{get_or_from_slice_get, none-some, slice_get-get_or, slice_get_cases, slice_get_past, slice_get_within}
use Rattle.act_keeping.proofs.Quotas.{some-at}
use Rattle.act_model.proofs.Lists.{behind}
use Rattle.act_engine.proofs.Lists.{drop-next}
use Rattle.act_audit.specs.Order.{InOrderUpTo, IsFirstDisorder, IsFirstShort, IsNoneShort, next_step}
use Rattle.act_model.specs.declared.journal.Item.{Item}
use Rattle.act_model.specs.declared.journal.Line.{Line}
use Rattle.act_model.specs.declared.journal.Step.{Step}
use Rattle.act_session.specs.Interleaving.{IsInterleaving, items_by, steps_by, steps_of}

-- ---- an item more

by-more : (caller k : ℕ) (items : List Item) (item : Item) → slice_get items k ≡ Some item → items_by caller (take (k + 1) items) ≡ items_by caller (take k items) ++ items_by caller (item ∷ [])
by-more caller k items item there =
    ap (items_by caller) (take_more items k item (slice_get_within items k item there) ∙ ap (λ (i : Item). take k items ++ i ∷ []) (get_or_from_slice_get items k item item there))
    ∙ filter-append (λ (i : Item). i.caller == caller) (take k items) (item ∷ [])

mine-more : (caller k : ℕ) (items : List Item) (item : Item) → slice_get items k ≡ Some item → (item.caller == caller) ≡ true → items_by caller (take (k + 1) items) ≡ items_by caller (take k items) ++ item ∷ []
mine-more caller k items item there is = by-more caller k items item there ∙ rw is refl

others-more : (caller k : ℕ) (items : List Item) (item : Item) → slice_get items k ≡ Some item → (item.caller == caller) ≡ false → items_by caller (take (k + 1) items) ≡ items_by caller (take k items)
others-more caller k items item there is = by-more caller k items item there ∙ rw is (append-nil (items_by caller (take k items)))

not-both : (b : Bool) → b ≡ false → b ≡ true → ⊥
not-both b isnt is = absurd (cc)

apart : (x a : ℕ) → (x == a) ≡ false → x ≢ a
apart x a isnt same = not-both (x == a) isnt (eq-eqb x a same)

-- how many steps each caller has made
pub made-more : (made : List ℕ) (items : List Item) (k : ℕ) (item : Item) → length made ≡ 16 → 1 ≤ item.caller → item.caller ≤ 16 → slice_get items k ≡ Some item
    → ((caller : ℕ) → 1 ≤ caller → caller ≤ 16 → slice_index made (caller - 1) ≡ length (items_by caller (take k items)))
    → (caller : ℕ) → 1 ≤ caller → caller ≤ 16 → slice_index (set made (item.caller - 1) (get_or made (item.caller - 1) 0 + 1)) (caller - 1) ≡ length (items_by caller (take (k + 1) items))
made-more made items k item size from to there before caller from_one to_most = by (item.caller == caller) refl
  where
    by : (mine : Bool) → (item.caller == caller) ≡ mine → slice_index (set made (item.caller - 1) (get_or made (item.caller - 1) 0 + 1)) (caller - 1) ≡ length (items_by caller (take (k + 1) items))
    by true is =
        let same = eqb-true item.caller caller is in
        get_or-set_at made (item.caller - 1) (caller - 1) (get_or made (item.caller - 1) 0 + 1) 0 (omega arith) (omega arith)
        ∙ omega (arith, before item.caller from to, ap (λ (c : ℕ). length (items_by c (take k items))) same, ap length (mine-more caller k items item there is), length-append (items_by caller (take k items)) (item ∷ []))
    by false is =
        let other = apart item.caller caller is in
        get_or-set_other made (item.caller - 1) (caller - 1) (get_or made (item.caller - 1) 0 + 1) 0 (omega arith)
        ∙ (before caller from_one to_most ∙ ap length (sym (others-more caller k items item there is)))

-- they are few
pub few-made : (caller k : ℕ) (items : List Item) → length (items_by caller (take k items)) ≤ length items
few-made caller k items =
    omega (arith, length-filter_both (λ (item : Item). item.caller == caller) (λ item. not (item.caller == caller)) (λ item. refl) (take k items), length-take k items)

-- all in order
pub order-more : (scripts : List (List Line)) (items : List Item) (k : ℕ) (item : Item) → slice_get items k ≡ Some item → next_step scripts items k item.caller ≡ Some item.step → InOrderUpTo scripts items k → InOrderUpTo scripts items (k + 1)
order-more scripts items k item there next before at one less here = by (at == k) refl
  where
    by : (same : Bool) → (at == k) ≡ same → next_step scripts items at one.caller ≡ Some one.step
    by true is =
        let same = eqb-true at k is in
        let one-is : item ≡ one = cc in
        subst (λ (n : ℕ). next_step scripts items n one.caller ≡ Some one.step) (sym same) (subst (λ (i : Item). next_step scripts items k i.caller ≡ Some i.step) one-is next)
    by false is = let other = apart at k is in before at one (omega arith) here

-- the next step of a caller that has a script
next-is : (scripts : List (List Line)) (items : List Item) (k caller : ℕ) (lines : List Line) → slice_get scripts (caller - 1) ≡ Some lines → next_step scripts items k caller ≡ slice_get (steps_of lines) (length (items_by caller (take k items)))
next-is scripts items k caller lines script = ap (option_and_then (λ (ls : List Line). slice_get (steps_of ls) (length (items_by caller (take k items))))) script

-- the steps of a caller so far are those that its script begins with
steps-begin : (scripts : List (List Line)) (items : List Item) (caller : ℕ) (lines : List Line) → slice_get scripts (caller - 1) ≡ Some lines → (k : ℕ) → k ≤ length items → InOrderUpTo scripts items k
    → steps_by (take k items) caller ≡ take (length (items_by caller (take k items))) (steps_of lines)
steps-begin scripts items caller lines script zero within order = refl
steps-begin scripts items caller lines script (suc k) within order =
    let found = some-at items k (omega (arith, within)) in
    by found.0 found.1 (found.0.caller == caller) refl (steps-begin scripts items caller lines script k (omega (arith, within)) (λ at one less here. order at one (omega (arith, less)) here))
  where
    by : (item : Item) → slice_get items k ≡ Some item → (mine : Bool) → (item.caller == caller) ≡ mine
        → steps_by (take k items) caller ≡ take (length (items_by caller (take k items))) (steps_of lines)
        → steps_by (take (suc k) items) caller ≡ take (length (items_by caller (take (suc k) items))) (steps_of lines)
    by item there true is before =
        let more : suc k ≡ k + 1 = omega arith in
        let xs = items_by caller (take k items) in
        let all = steps_of lines in
        let longer : items_by caller (take (suc k) items) ≡ xs ++ item ∷ [] = ap (λ (n : ℕ). items_by caller (take n items)) more ∙ mine-more caller k items item there is in
        let next : slice_get all (length xs) ≡ Some item.step =
        sym (next-is scripts items k caller lines script) ∙ subst (λ (c : ℕ). next_step scripts items k c ≡ Some item.step) (eqb-true item.caller caller is) (order k item (omega arith) there) in
        let taken : take (length (xs ++ item ∷ [])) all ≡ take (length xs) all ++ item.step ∷ [] =
        ap (λ (n : ℕ). take n all) (length-append xs (item ∷ [])) ∙ (take_more all (length xs) item.step (slice_get_within all (length xs) item.step next)
        ∙ ap (λ (s : Step). take (length xs) all ++ s ∷ []) (get_or_from_slice_get all (length xs) item.step item.step next)) in
        subst (λ (ys : List Item). map (λ (i : Item). i.step) ys ≡ take (length ys) all) (sym longer)
        (map-append (λ (i : Item). i.step) xs (item ∷ []) ∙ (ap (λ (ss : List Step). ss ++ item.step ∷ []) before ∙ sym taken))
    by item there false is before =
        let more : suc k ≡ k + 1 = omega arith in
        let same : items_by caller (take (suc k) items) ≡ items_by caller (take k items) = ap (λ (n : ℕ). items_by caller (take n items)) more ∙ others-more caller k items item there is in
        subst (λ (ys : List Item). map (λ (i : Item). i.step) ys ≡ take (length ys) (steps_of lines)) (sym same) before

-- a caller that has a next step has a script
has-script : (scripts : List (List Line)) (items : List Item) (k : ℕ) (item : Item) → 1 ≤ item.caller → next_step scripts items k item.caller ≡ Some item.step → item.caller ≤ length scripts
has-script scripts items k item from is = elim (slice_get_cases scripts (item.caller - 1)).1 [
  | inl found ↦ let within = found.1 in omega (arith, within, from)
  | inr past ↦ absurd (none-some item.step (sym (ap (option_and_then (λ (ls : List Line). slice_get (steps_of ls) (length (items_by item.caller (take k items))))) past.1) ∙ is))
]

-- ---- the end

module _ (scripts : List (List Line)) (items : List Item) (made : List ℕ) (k : ℕ) (end : k ≡ length items) (few : length scripts ≤ 16)
    (counts : (caller : ℕ) → 1 ≤ caller → caller ≤ 16 → slice_index made (caller - 1) ≡ length (items_by caller (take k items)))
    (order : InOrderUpTo scripts items k) where
  -- a script whose steps are all made has no next one
  none-left : (caller : ℕ) (lines : List Line) → 1 ≤ caller → slice_get scripts (caller - 1) ≡ Some lines → length lines ≤ slice_index made (caller - 1) → length (steps_of lines) ≤ length (items_by caller (take k items))
  none-left caller lines from script made-all =
      omega (arith, length-map lines (λ (line : Line). line.step), counts caller from (omega (arith, slice_get_within scripts (caller - 1) lines script)), made-all)

  pub all-made : All (λ (item : Item). 1 ≤ item.caller) items → IsNoneShort scripts made → IsInterleaving scripts items
  all-made from none = record {
    callers = λ at d within. let there = slice_get-get_or items at d within in let one = from at d within in (one, has-script scripts items at (get_or items at d) one (order at (get_or items at d) (omega arith) there));
    steps = λ place lines there. steps place lines there;
  }
    where
      steps : (place : ℕ) (lines : List Line) → slice_get scripts place ≡ Some lines → steps_by items (place + 1) ≡ steps_of lines
      steps place lines there =
          let at : place + 1 - 1 ≡ place = omega arith in
          let script : slice_get scripts (place + 1 - 1) ≡ Some lines = ap (slice_get scripts) at ∙ there in
          let enough = none-left (place + 1) lines (omega arith) script (omega (arith, none place lines there, ap (slice_index made) at)) in
          ap (λ (xs : List Item). steps_by xs (place + 1)) (sym (take_all k items (omega arith)))
          ∙ (steps-begin scripts items (place + 1) lines script k (omega arith) order ∙ take_all (length (items_by (place + 1) (take k items))) (steps_of lines) enough)

  pub some-short : (line caller : ℕ) → line ≡ length items + 2 → IsFirstShort scripts made caller → IsFirstDisorder scripts items line caller
  some-short line caller line-is short = record {
    place = k;
    before = order;
    line_is = omega arith;
    here = inr (record {
      at_end = end;
      from_one = short.from_one;
      of_script = let within = slice_get_within scripts (caller - 1) short.lines short.script in omega (arith, within, short.from_one);
      left = left;
      first = first;
    });
  }
    where
      left : IsSome (next_step scripts items k caller)
      left =
          let within = slice_get_within scripts (caller - 1) short.lines short.script in
          let found = some-at (steps_of short.lines) (length (items_by caller (take k items)))
          (omega (arith, length-map short.lines (λ (line : Line). line.step), counts caller short.from_one (omega (arith, within)), short.fewer)) in
          subst (λ (s : Option Step). IsSome s) (sym (next-is scripts items k caller short.lines short.script ∙ found.1)) refl

      first : (earlier : ℕ) → 1 ≤ earlier → earlier < caller → next_step scripts items k earlier ≡ None
      first earlier from less =
          let within = slice_get_within scripts (caller - 1) short.lines short.script in
          let found = some-at scripts (earlier - 1) (omega (arith, within, less, from)) in
          next-is scripts items k earlier found.0 found.1
          ∙ slice_get_past (steps_of found.0) (length (items_by earlier (take k items))) (none-left earlier found.0 from found.1 (short.first (earlier - 1) found.0 (omega (arith, less, from)) found.1))

-- ---- an interleaving is in order

abbrev no-step : Option Step
no-step = None

module _ (scripts : List (List Line)) (items : List Item) (of : IsInterleaving scripts items) where
  script-steps : (caller : ℕ) (lines : List Line) → 1 ≤ caller → slice_get scripts (caller - 1) ≡ Some lines → steps_by items caller ≡ steps_of lines
  script-steps caller lines from there =
      let number : caller - 1 + 1 ≡ caller = omega (arith, from) in
      subst (λ (c : ℕ). steps_by items c ≡ steps_of lines) number (of.steps (caller - 1) lines there)

  in-turn : (k : ℕ) (item : Item) → slice_get items k ≡ Some item → next_step scripts items k item.caller ≡ Some item.step
  in-turn k item there =
      let caller = item.caller in
      let within = slice_get_within items k item there in
      let is : get_or items k item ≡ item = get_or_from_slice_get items k item item there in
      let bounds = subst (λ (i : Item). (1 ≤ i.caller) × (i.caller ≤ length scripts)) is (of.callers k item within) in
      let script = some-at scripts (caller - 1) (omega (arith, bounds.0, bounds.1)) in
      let front = items_by caller (take k items) in
      let back = items_by caller (drop (k + 1) items) in
      let same : (item.caller == caller) ≡ true = eq-eqb caller caller refl in
      let mine : items_by caller (item ∷ drop (k + 1) items) ≡ item ∷ back = rw same refl in
      let parts : items_by caller items ≡ front ++ item ∷ back =
      ap (items_by caller) (sym (take-append-drop k items)) ∙ (filter-append (λ (i : Item). i.caller == caller) (take k items) (drop k items)
      ∙ ap (λ (rest : List Item). front ++ rest) (ap (items_by caller) (drop-next items k item within (sym is)) ∙ mine)) in
      let steps : steps_of script.0 ≡ map (λ (i : Item). i.step) front ++ item.step ∷ map (λ (i : Item). i.step) back =
      sym (script-steps caller script.0 bounds.0 script.1) ∙ (ap (map (λ (i : Item). i.step)) parts ∙ map-append (λ (i : Item). i.step) front (item ∷ back)) in
      next-is scripts items k caller script.0 script.1
      ∙ (ap (λ (ss : List Step). slice_get ss (length front)) steps
      ∙ (ap (slice_get (map (λ (i : Item). i.step) front ++ item.step ∷ map (λ (i : Item). i.step) back)) (sym (length-map front (λ (i : Item). i.step)))
      ∙ behind (map (λ (i : Item). i.step) front) (map (λ (i : Item). i.step) back) item.step))

  none-missing : (place caller : ℕ) → place ≡ length items → 1 ≤ caller → caller ≤ length scripts → next_step scripts items place caller ≡ None
  none-missing place caller end from to =
      let script = some-at scripts (caller - 1) (omega (arith, from, to)) in
      let all : items_by caller (take place items) ≡ items_by caller items = ap (items_by caller) (take_all place items (omega (arith, end))) in
      next-is scripts items place caller script.0 script.1
      ∙ slice_get_past (steps_of script.0) (length (items_by caller (take place items)))
      (omega (arith, ap length (script-steps caller script.0 from script.1), length-map (items_by caller items) (λ (i : Item). i.step), ap length all))

  pub no-disorder : (line caller : ℕ) → IsFirstDisorder scripts items line caller → ⊥
  no-disorder line caller first = elim first.here [
    | inl other ↦ other.other (subst (λ (c : ℕ). next_step scripts items first.place c ≡ Some other.item.step) other.caller_is (in-turn first.place other.item other.here))
    | inr short ↦ none-there (subst (λ (s : Option Step). IsSome s) (none-missing first.place caller short.at_end short.from_one short.of_script) short.left)
  ]
    where
      none-there : IsSome no-step → ⊥
      none-there is = absurd (cc)

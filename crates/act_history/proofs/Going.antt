-- A history that goes on with a mark.
use Rattle.std.proofs.Common.{◌≡◌, ℕ, suc, ◌+◌, ◌≤◌, ◌==◌, ◌||◌, cond, Bool, true, false, List, [], ◌∷◌, ◌++◌, length, drop, Option, Some, None, inl, inr, refl, sym, ap, subst, ◌∙◌, arith, append-nil}
use Rattle.std.specs.List.{count_by, filter_map, list_any}
use Rattle.std.proofs.lemmas.List.{drop-append-le, drop-drop, take-append-le, take_at}
use Rattle.std.proofs.lemmas.List.Elements.{filter_map-append}
use Rattle.std.proofs.lemmas.List.Folds.{list_any-append}
use Rattle.std.proofs.lemmas.List.Sums.{sum_by-append}
use Rattle.act_model.specs.Asks.{caller_asks}
use Rattle.act_model.specs.Journal.{book_of, entry_of}
use Rattle.act_model.specs.declared.asks.Asking.{Asking}
use Rattle.act_model.specs.declared.journal.Item.{Item}
use Rattle.act_model.specs.declared.journal.Asked.{Asked}
use Rattle.act_model.specs.declared.journal.Step.{Step}
use Rattle.act_model.specs.declared.journal.Step.TheVariants.{Append, Ask}
use Rattle.act_model.specs.declared.observed.Obs.{Obs}
use Rattle.act_model.proofs.AsksInTurn.{asks_from, asks_in_turn}
use Rattle.act_history.specs.History.{History, and_then, asks_by, before, collected_by, entries_of, is_collect_by, item_of, journal_of, open_asks}
use Rattle.act_history.specs.Legal.{IsLegal, IsSound}
use Rattle.act_history.specs.declared.mark.Mark.{Mark}
use Rattle.act_history.proofs.Places.{get-push_cases}

-- ---- tests and counts of marks

or-false : (b : Bool) → (b || false) ≡ b
or-false true = refl
or-false false = refl

or-true : (b : Bool) → (b || true) ≡ true
or-true true = refl
or-true false = refl

module _ {X : Type 0} (p : X → Bool) (xs : List X) (y : X) where
  any-next : list_any p (xs ++ y ∷ []) ≡ (list_any p xs || p y)
  any-next = list_any-append p xs (y ∷ []) ∙ ap (λ (b : Bool). list_any p xs || b) (or-false (p y))

  pub any-not : p y ≡ false → list_any p (xs ++ y ∷ []) ≡ list_any p xs
  any-not not = any-next ∙ (ap (λ (b : Bool). list_any p xs || b) not ∙ or-false (list_any p xs))

  pub any-yes : p y ≡ true → list_any p (xs ++ y ∷ []) ≡ true
  any-yes so = any-next ∙ (ap (λ (b : Bool). list_any p xs || b) so ∙ or-true (list_any p xs))

  pub count-not : p y ≡ false → count_by p (xs ++ y ∷ []) ≡ count_by p xs
  count-not not = let more = sum_by-append (λ x. cond (p x) 1 0) xs (y ∷ []) in omega (arith, rw not at more)

  pub count-yes : p y ≡ true → count_by p (xs ++ y ∷ []) ≡ count_by p xs + 1
  count-yes so = let more = sum_by-append (λ x. cond (p x) 1 0) xs (y ∷ []) in omega (arith, rw so at more)

-- ---- the journal

pub map-not : {X Y : Type 0} (f : X → Option Y) (xs : List X) (x : X) → f x ≡ None → filter_map f (xs ++ x ∷ []) ≡ filter_map f xs
map-not f xs x none = filter_map-append f xs (x ∷ []) ∙ rw none (append-nil (filter_map f xs))

pub map-yes : {X Y : Type 0} (f : X → Option Y) (xs : List X) (x : X) (y : Y) → f x ≡ Some y → filter_map f (xs ++ x ∷ []) ≡ filter_map f xs ++ y ∷ []
map-yes f xs x y some = filter_map-append f xs (x ∷ []) ∙ rw some refl

module _ (history : History) (mark : Mark) where
  pub journal-same : item_of mark ≡ None → journal_of (and_then history mark) ≡ journal_of history
  journal-same none = map-not item_of history.marks mark none

  pub journal-more : (item : Item) → item_of mark ≡ Some item → journal_of (and_then history mark) ≡ journal_of history ++ item ∷ []
  journal-more item some = map-yes item_of history.marks mark item some

  -- ---- the book

  pub entries-same : item_of mark ≡ None → entries_of (and_then history mark) ≡ entries_of history
  entries-same none = ap book_of (journal-same none)

  pub entries-ask : (item : Item) → item_of mark ≡ Some item → entry_of item.step ≡ None → entries_of (and_then history mark) ≡ entries_of history
  entries-ask item some none = ap book_of (journal-more item some) ∙ map-not (λ (i : Item). entry_of i.step) (journal_of history) item none

  pub entries-more : (item : Item) (entry : Obs) → item_of mark ≡ Some item → entry_of item.step ≡ Some entry → entries_of (and_then history mark) ≡ entries_of history ++ entry ∷ []
  entries-more item entry some is = ap book_of (journal-more item some) ∙ map-yes (λ (i : Item). entry_of i.step) (journal_of history) item entry is

-- ---- the asks of a caller

module _ (caller : ℕ) where
  from-append : (n v : ℕ) (x : Item) (xs : List Item) (entry : Obs) → x.step ≡ Append entry → asks_from caller n v (x ∷ xs) ≡ asks_from caller n (v + 1) xs
  from-append n v x xs entry is = rw is refl

  from-own : (n v : ℕ) (x : Item) (xs : List Item) (asked : Asked) → x.step ≡ Ask asked → (x.caller == caller) ≡ true
      → asks_from caller n v (x ∷ xs) ≡ record { caller = caller; number = n; version = v; asked = asked } ∷ asks_from caller (n + 1) v xs
  from-own n v x xs asked is own = rw (is, own) refl

  from-other : (n v : ℕ) (x : Item) (xs : List Item) (asked : Asked) → x.step ≡ Ask asked → (x.caller == caller) ≡ false → asks_from caller n v (x ∷ xs) ≡ asks_from caller n v xs
  from-other n v x xs asked is other = rw (is, other) refl

  book-append : (x : Item) (xs : List Item) (entry : Obs) → x.step ≡ Append entry → length (book_of (x ∷ xs)) ≡ suc (length (book_of xs))
  book-append x xs entry is = rw is refl

  book-ask : (x : Item) (xs : List Item) (asked : Asked) → x.step ≡ Ask asked → length (book_of (x ∷ xs)) ≡ length (book_of xs)
  book-ask x xs asked is = rw is refl

  -- the asks of some items and the one behind them
  abbrev one-behind : List Asking → ℕ → ℕ → Item → List Asking
  one-behind asks number version y = asks ++ asks_from caller number version (y ∷ [])

  -- one item more
  push : (xs : List Item) (n v : ℕ) (y : Item) → asks_from caller n v (xs ++ y ∷ []) ≡ one-behind (asks_from caller n v xs) (n + length (asks_from caller n v xs)) (v + length (book_of xs)) y
  push [] n v y =
      let number : n ≡ n + 0 = omega arith in
      let version : v ≡ v + 0 = omega arith in
      ap (λ (k : ℕ). asks_from caller k v (y ∷ [])) number ∙ ap (λ (k : ℕ). asks_from caller (n + 0) k (y ∷ [])) version
  push (x ∷ xs) n v y = by (λ n v. push xs n v y) x.step (x.caller == caller) refl refl
    where
      by : ((n v : ℕ) → asks_from caller n v (xs ++ y ∷ []) ≡ one-behind (asks_from caller n v xs) (n + length (asks_from caller n v xs)) (v + length (book_of xs)) y) → (step : Step) (mine : Bool) → x.step ≡ step → (x.caller == caller) ≡ mine
          → asks_from caller n v (x ∷ (xs ++ y ∷ [])) ≡ one-behind (asks_from caller n v (x ∷ xs)) (n + length (asks_from caller n v (x ∷ xs))) (v + length (book_of (x ∷ xs))) y
      by rest (Append entry) mine is same =
          let moved : (v + 1) + length (book_of xs) ≡ v + length (book_of (x ∷ xs)) = omega (arith, book-append x xs entry is) in
          from-append n v x (xs ++ y ∷ []) entry is
          ∙ (rest n (v + 1)
          ∙ (ap (λ (k : ℕ). one-behind (asks_from caller n (v + 1) xs) (n + length (asks_from caller n (v + 1) xs)) k y) moved
          ∙ ap (λ (asks : List Asking). one-behind asks (n + length asks) (v + length (book_of (x ∷ xs))) y) (sym (from-append n v x xs entry is))))
      by rest (Ask asked) true is same =
          let first : Asking = record { caller = caller; number = n; version = v; asked = asked } in
          let moved : (n + 1) + length (asks_from caller (n + 1) v xs) ≡ n + suc (length (asks_from caller (n + 1) v xs)) = omega arith in
          from-own n v x (xs ++ y ∷ []) asked is same
          ∙ (ap (λ (asks : List Asking). first ∷ asks) (rest (n + 1) v)
          ∙ (ap (λ (k : ℕ). first ∷ one-behind (asks_from caller (n + 1) v xs) k (v + length (book_of xs)) y) moved
          ∙ (ap (λ (k : ℕ). one-behind (first ∷ asks_from caller (n + 1) v xs) (n + suc (length (asks_from caller (n + 1) v xs))) (v + k) y) (sym (book-ask x xs asked is))
          ∙ ap (λ (asks : List Asking). one-behind asks (n + length asks) (v + length (book_of (x ∷ xs))) y) (sym (from-own n v x xs asked is same)))))
      by rest (Ask asked) false is same =
          from-other n v x (xs ++ y ∷ []) asked is same
          ∙ (rest n v
          ∙ (ap (λ (k : ℕ). one-behind (asks_from caller n v xs) (n + length (asks_from caller n v xs)) (v + k) y) (sym (book-ask x xs asked is))
          ∙ ap (λ (asks : List Asking). one-behind asks (n + length asks) (v + length (book_of (x ∷ xs))) y) (sym (from-other n v x xs asked is same))))

  asks-next : (items : List Item) (item : Item) → caller_asks (items ++ item ∷ []) caller ≡ caller_asks items caller ++ asks_from caller (1 + length (caller_asks items caller)) (length (book_of items)) (item ∷ [])
  asks-next items item =
      let none : 0 + length (book_of items) ≡ length (book_of items) = omega arith in
      asks_in_turn (items ++ item ∷ []) caller
      ∙ (push items 1 0 item
      ∙ (ap (λ (v : ℕ). asks_from caller 1 0 items ++ asks_from caller (1 + length (asks_from caller 1 0 items)) v (item ∷ [])) none
      ∙ ap (λ (asks : List Asking). asks ++ asks_from caller (1 + length asks) (length (book_of items)) (item ∷ [])) (sym (asks_in_turn items caller))))

  none-appended : (n v : ℕ) (item : Item) (entry : Obs) → item.step ≡ Append entry → asks_from caller n v (item ∷ []) ≡ []
  none-appended n v item entry is = rw is refl

  none-other : (n v : ℕ) (item : Item) (asked : Asked) → item.step ≡ Ask asked → (item.caller == caller) ≡ false → asks_from caller n v (item ∷ []) ≡ []
  none-other n v item asked is other = rw (is, other) refl

  one-own : (n v : ℕ) (item : Item) (asked : Asked) → item.step ≡ Ask asked → (item.caller == caller) ≡ true → asks_from caller n v (item ∷ []) ≡ record { caller = caller; number = n; version = v; asked = asked } ∷ []
  one-own n v item asked is own = rw (is, own) refl

  module _ (history : History) (mark : Mark) where
    pub asks-same : item_of mark ≡ None → asks_by (and_then history mark) caller ≡ asks_by history caller
    asks-same none = ap (λ (items : List Item). caller_asks items caller) (journal-same history mark none)

    asks-item : (item : Item) → item_of mark ≡ Some item
        → asks_by (and_then history mark) caller ≡ asks_by history caller ++ asks_from caller (1 + length (asks_by history caller)) (length (entries_of history)) (item ∷ [])
    asks-item item some = ap (λ (items : List Item). caller_asks items caller) (journal-more history mark item some) ∙ asks-next (journal_of history) item

    pub asks-append : (item : Item) (entry : Obs) → item_of mark ≡ Some item → item.step ≡ Append entry → asks_by (and_then history mark) caller ≡ asks_by history caller
    asks-append item entry some is =
        asks-item item some
        ∙ (ap (λ (asks : List Asking). asks_by history caller ++ asks) (none-appended (1 + length (asks_by history caller)) (length (entries_of history)) item entry is)
        ∙ append-nil (asks_by history caller))

    pub asks-other : (item : Item) (asked : Asked) → item_of mark ≡ Some item → item.step ≡ Ask asked → (item.caller == caller) ≡ false → asks_by (and_then history mark) caller ≡ asks_by history caller
    asks-other item asked some is other =
        asks-item item some
        ∙ (ap (λ (asks : List Asking). asks_by history caller ++ asks) (none-other (1 + length (asks_by history caller)) (length (entries_of history)) item asked is other)
        ∙ append-nil (asks_by history caller))

    pub asks-own : (item : Item) (asked : Asked) → item_of mark ≡ Some item → item.step ≡ Ask asked → (item.caller == caller) ≡ true
        → asks_by (and_then history mark) caller ≡ asks_by history caller ++ record { caller = caller; number = 1 + length (asks_by history caller); version = length (entries_of history); asked = asked } ∷ []
    asks-own item asked some is own =
        asks-item item some
        ∙ ap (λ (asks : List Asking). asks_by history caller ++ asks) (one-own (1 + length (asks_by history caller)) (length (entries_of history)) item asked is own)

    -- ---- those that are open

    pub open-same : asks_by (and_then history mark) caller ≡ asks_by history caller → is_collect_by caller mark ≡ false → open_asks (and_then history mark) caller ≡ open_asks history caller
    open-same same not =
        ap (λ (n : ℕ). drop n (asks_by (and_then history mark) caller)) (count-not (is_collect_by caller) history.marks mark not) ∙ ap (λ (asks : List Asking). drop (collected_by history caller) asks) same

    pub open-more : (ask : Asking) → asks_by (and_then history mark) caller ≡ asks_by history caller ++ ask ∷ [] → is_collect_by caller mark ≡ false → collected_by history caller ≤ length (asks_by history caller)
        → open_asks (and_then history mark) caller ≡ open_asks history caller ++ ask ∷ []
    open-more ask more not few =
        ap (λ (n : ℕ). drop n (asks_by (and_then history mark) caller)) (count-not (is_collect_by caller) history.marks mark not)
        ∙ (ap (λ (asks : List Asking). drop (collected_by history caller) asks) more ∙ drop-append-le (collected_by history caller) (asks_by history caller) (ask ∷ []) few)

    pub open-less : asks_by (and_then history mark) caller ≡ asks_by history caller → is_collect_by caller mark ≡ true → open_asks (and_then history mark) caller ≡ drop 1 (open_asks history caller)
    open-less same so =
        ap (λ (n : ℕ). drop n (asks_by (and_then history mark) caller)) (count-yes (is_collect_by caller) history.marks mark so)
        ∙ (ap (λ (asks : List Asking). drop (collected_by history caller + 1) asks) same ∙ sym (drop-drop 1 (collected_by history caller) (asks_by history caller)))

-- ---- a legal mark

pub sound-next : (history : History) (mark : Mark) → IsSound history → IsLegal history mark → IsSound (and_then history mark)
sound-next history mark sound legal = λ place m is. elim (get-push_cases history.marks mark m place is) [
  | inl old ↦
      let same : before (and_then history mark) place ≡ before history place =
      ap (λ (marks : List Mark). record { portfolio = history.portfolio; quotas = history.quotas; marks = marks }) (take-append-le place history.marks (mark ∷ []) (omega (arith, old.0))) in
      subst (λ (h : History). IsLegal h m) (sym same) (sound place m old.1)
  | inr new ↦
      let whole : before (and_then history mark) place ≡ history =
      ap (λ (marks : List Mark). record { portfolio = history.portfolio; quotas = history.quotas; marks = marks }) (take_at history.marks (mark ∷ []) place (sym new.0)) in
      subst (λ (h : History). IsLegal h m) (sym whole) (subst (IsLegal history) new.1 legal)
]

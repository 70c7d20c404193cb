-- The asks of a caller, item by item.
use Rattle.std.proofs.Common.{◌≡◌, ℕ, suc, ◌+◌, ◌-◌, ◌<◌, ◌==◌, if◌then◌else◌, Bool, true, false, cond, List, [], ◌∷◌, ◌++◌, count_by, length, Option, Some, None, refl, sym, ◌∙◌, append_assoc, length-append, arith}
use Rattle.std.specs.List.{cons_option, filter_map, flat_map, range_with_len}
use Rattle.std.proofs.lemmas.List.{take_at}
use Rattle.std.proofs.lemmas.List.Sums.{sum_by-append}
use Rattle.act_model.specs.declared.journal.Item.{Item}
use Rattle.act_model.specs.declared.journal.Step.{Step}
use Rattle.act_model.specs.declared.journal.Step.TheVariants.{Append, Ask}
use Rattle.act_model.specs.Asks.{appends, ask_at, caller_asks, is_ask_of}
use Rattle.act_model.specs.declared.asks.Asking.{Asking}
use Rattle.act_model.proofs.Lists.{behind}

-- the asks of a caller, the first of them with this number, in items before which so many entries stand
abbrev pub asks_from : ℕ → ℕ → ℕ → List Item → List Asking
asks_from caller number version [] = []
asks_from caller number version (item ∷ items) = elim item.step [
  | Append entry ↦ asks_from caller number (version + 1) items
  | Ask asked ↦ if item.caller == caller
      then record { caller = caller; number = number; version = version; asked = asked } ∷ asks_from caller (number + 1) version items
      else asks_from caller number version items
]

counted : {X : Type 0} (p : X → Bool) (front : List X) (x : X) → p x ≡ true → count_by p (front ++ x ∷ []) ≡ count_by p front + 1
counted p front x is =
    let more = sum_by-append (λ y. cond (p y) 1 0) front (x ∷ []) in omega (arith, rw is at more)

uncounted : {X : Type 0} (p : X → Bool) (front : List X) (x : X) → p x ≡ false → count_by p (front ++ x ∷ []) ≡ count_by p front
uncounted p front x is =
    let more = sum_by-append (λ y. cond (p y) 1 0) front (x ∷ []) in omega (arith, rw is at more)

module _ (caller : ℕ) where
  -- one more than the caller's asks in a front, and the entries in it
  abbrev before : List Item → ℕ
  before front = count_by (is_ask_of caller) front + 1

  abbrev entries : List Item → ℕ
  entries front = count_by appends front

  abbrev ask_of : ℕ → ℕ → Step → Bool → Option Asking
  ask_of number version (Append entry) mine = None
  ask_of number version (Ask asked) mine = if mine then Some (record { caller = caller; number = number; version = version; asked = asked }) else None

  -- the ask behind a front
  here : (front back : List Item) (item : Item) (step : Step) (mine : Bool) → item.step ≡ step → (item.caller == caller) ≡ mine → ask_at (front ++ item ∷ back) caller (length front) ≡ ask_of (before front) (entries front) step mine
  here front back item (Append entry) mine is same = rw (behind front back item, is) refl
  here front back item (Ask asked) true is same = rw (behind front back item, is, same, take_at front (item ∷ back) (length front) refl) refl
  here front back item (Ask asked) false is same = rw (behind front back item, is, same) refl

  abbrev rest_of : List Item → List Item → List Asking
  rest_of items back = asks_from caller (before items) (entries items) back

  -- an item in front of those behind it
  in_front : (front back : List Item) (item : Item) (step : Step) (mine : Bool) → item.step ≡ step → (item.caller == caller) ≡ mine
      → cons_option (ask_of (before front) (entries front) step mine) (rest_of (front ++ item ∷ []) back) ≡ rest_of front (item ∷ back)
  in_front front back item (Append entry) mine is same =
      rw (counted appends front item (rw is refl), uncounted (is_ask_of caller) front item (rw is refl), is) refl
  in_front front back item (Ask asked) true is same =
      rw (uncounted appends front item (rw is refl), counted (is_ask_of caller) front item (rw (is, same) refl), is, same) refl
  in_front front back item (Ask asked) false is same =
      rw (uncounted appends front item (rw is refl), uncounted (is_ask_of caller) front item (rw (is, same) refl), is, same) refl

  -- the asks behind a front
  from_front : (front back : List Item) → filter_map (ask_at (front ++ back) caller) (range_with_len (length front) (length back)) ≡ rest_of front back
  from_front front [] = refl
  from_front front (item ∷ back) =
      let regrouped : front ++ item ∷ back ≡ (front ++ item ∷ []) ++ back = sym (append_assoc front (item ∷ []) back) in
      let longer : length (front ++ item ∷ []) ≡ length front + 1 = length-append front (item ∷ []) in
      let others : filter_map (ask_at (front ++ item ∷ back) caller) (range_with_len (length front + 1) (length back)) ≡ rest_of (front ++ item ∷ []) back =
      rw (regrouped, sym longer) (from_front (front ++ item ∷ []) back) in
      rw (here front back item item.step (item.caller == caller) refl refl, others) (in_front front back item item.step (item.caller == caller) refl refl)

-- the asks of a caller, from the first item on
pub asks_in_turn : (items : List Item) (caller : ℕ) → caller_asks items caller ≡ asks_from caller 1 0 items
asks_in_turn items caller = from_front caller [] items

-- one number more of those below the end
pub one_more : {A : Type 0} (f : ℕ → List A) (old new total : List A) (n end : ℕ) → n < end → new ≡ old ++ f n → old ++ flat_map f (range_with_len n (end - n)) ≡ total → new ++ flat_map f (range_with_len (n + 1) (end - (n + 1))) ≡ total
one_more f old new total n end within more so_far =
    let k : end - n ≡ suc (end - (n + 1)) = omega arith in
    let split : old ++ (f n ++ flat_map f (range_with_len (n + 1) (end - (n + 1)))) ≡ total = rw k at so_far in
    rw more (append_assoc old (f n) (flat_map f (range_with_len (n + 1) (end - (n + 1)))) ∙ split)

-- The answers to the asks of a journal, shared out to its callers.
use Rattle.std.proofs.Common.{◌≡◌, ◌≢◌, ℕ, zero, suc, ◌+◌, ◌-◌, ◌<◌, ◌≤◌, ◌==◌, Bool, true, false, cond, if◌then◌else◌, List, [], ◌∷◌, ◌++◌, count_by, drop, get_or, length, length-append, map, replicate, take, Vec, Global, refl, sym, ap, subst, ◌∙◌, append-nil, append_assoc, arith}
use Rattle.std.specs.Prelude.{not}
use Rattle.std.specs.List.{flat_map, range_with_len}
use Rattle.std.proofs.lemmas.Bool.{eqb-true, eq-eqb}
use Rattle.std.proofs.lemmas.Grind.{get_or-set_at}
use Rattle.std.proofs.lemmas.List.{get_or-set_other, get_or-set_same, length-map, length-replicate, length-set, map-append, take_all}
use Rattle.std.proofs.lemmas.List.Sums.{sum_by-cons}
use Rattle.act_audit.proofs.Scripts.{script_from}
use Rattle.act_audit.specs.Journal.{as_one_caller}
use Rattle.act_audit.specs.Judging.{answer_lists, with_answer}
use Rattle.act_model.specs.Answer.{Reply}
use Rattle.act_model.specs.Asks.{asks_of, caller_asks}
use Rattle.act_model.specs.Journal.{book_of, is_append}
use Rattle.act_model.specs.Names.{NameLists}
use Rattle.act_model.specs.declared.asks.Asking.{Asking}
use Rattle.act_model.specs.declared.journal.Asked.{Asked}
use Rattle.act_model.specs.declared.journal.Item.{Item}
use Rattle.act_model.specs.declared.journal.Step.{Step}
use Rattle.act_model.specs.declared.journal.Step.TheVariants.{Append, Ask}
use Rattle.act_model.specs.declared.observed.Obs.{Obs}
use Rattle.act_model.proofs.AsksInTurn.{asks_from, asks_in_turn}
use Rattle.act_history.specs.History.{replies_of}
use Rattle.act_transcript.specs.Text.{items_of}
use Rattle.act_eval.proofs.Asks.{one-caller}
use Rattle.act_engine.proofs.Lists.{drop-past}
use Rattle.act_profile.specs.Answers.{answer_to, answers_of}
use Rattle.act_profile.specs.Run.{Contracts}

abbrev pub is_ask : Item → Bool
is_ask item = not (is_append item.step)

-- the answer to the next ask of a caller
abbrev pub as_next : ℕ → ℕ → Reply → Reply
as_next caller number reply = record { caller = caller; number = number; version = reply.version; runs = reply.runs }

-- the share of a caller of the answers to the asks of items, from a number on
abbrev pub share : ℕ → ℕ → List Item → List Reply → List Reply
share caller number [] replies = []
share caller number (item ∷ items) replies = elim item.step [
  | Append entry ↦ share caller number items replies
  | Ask asked ↦ elim replies [
    | [] ↦ []
    | reply ∷ others ↦ if item.caller == caller then as_next caller number reply ∷ share caller (number + 1) items others else share caller number items others
  ]
]

-- of the answers to the asks of items each of 16 callers has those to some first asks, and its share of what is left is still to be given
pub record Shared (items : List Item) (all : List Reply) (lists : List (List Reply)) (left : List Item) (replies : List Reply) (place : ℕ) : Type 0 where
  pub size : length lists ≡ 16
  pub own : (caller : ℕ) → 1 ≤ caller → caller ≤ 16 → get_or lists (caller - 1) [] ++ share caller (length (get_or lists (caller - 1) []) + 1) left replies ≡ share caller 1 items all
  pub few : (caller : ℕ) → length (get_or lists (caller - 1) []) ≤ place
  pub enough : length replies ≡ count_by is_ask left

not-both : (b : Bool) → b ≡ false → b ≡ true → ⊥
not-both b isnt is = absurd (cc)

apart : (x a : ℕ) → (x == a) ≡ false → x ≢ a
apart x a isnt same = not-both (x == a) isnt (eq-eqb x a same)

-- ---- the start

abbrev nothing : List Reply
nothing = []

none-given : (n place : ℕ) → get_or (replicate n nothing) place nothing ≡ nothing
none-given zero place = refl
none-given (suc n) zero = refl
none-given (suc n) (suc place) = none-given n place

pub shared-first : (items : List Item) (all : List Reply) (lists : List (List Reply)) (replies : List Reply) → lists ≡ replicate 16 [] → replies ≡ all → length all ≡ count_by is_ask items → Shared items all lists items replies 0
shared-first items all lists replies lists-are replies-are count =
    let none : (place : ℕ) → get_or lists place nothing ≡ nothing = λ place. ap (λ (ls : List (List Reply)). get_or ls place nothing) lists-are ∙ none-given 16 place in
    record {
      size = ap length lists-are ∙ length-replicate 16 nothing;
      own = λ caller from to. rw (none (caller - 1), replies-are) refl;
      few = λ caller. omega (arith, ap length (none (caller - 1)));
      enough = ap length replies-are ∙ count;
    }

-- ---- an item more

share-entry : (caller number : ℕ) (item : Item) (left : List Item) (replies : List Reply) (entry : Obs) → item.step ≡ Append entry → share caller number (item ∷ left) replies ≡ share caller number left replies
share-entry caller number item left replies entry is = rw is refl

share-ask : (caller number : ℕ) (item : Item) (left : List Item) (reply : Reply) (others : List Reply) (asked : Asked) → item.step ≡ Ask asked
    → share caller number (item ∷ left) (reply ∷ others) ≡ (if item.caller == caller then as_next caller number reply ∷ share caller (number + 1) left others else share caller number left others)
share-ask caller number item left reply others asked is = rw is refl

asks-entry : (item : Item) (left : List Item) (entry : Obs) → item.step ≡ Append entry → count_by is_ask (item ∷ left) ≡ count_by is_ask left
asks-entry item left entry is = sum_by-cons (λ (i : Item). cond (is_ask i) 1 0) item left ∙ rw is (omega arith)

asks-ask : (item : Item) (left : List Item) (asked : Asked) → item.step ≡ Ask asked → count_by is_ask (item ∷ left) ≡ 1 + count_by is_ask left
asks-ask item left asked is = sum_by-cons (λ (i : Item). cond (is_ask i) 1 0) item left ∙ rw is refl

module _ (items : List Item) (all : List Reply) (lists : List (List Reply)) (item : Item) (left : List Item) (place : ℕ) where
  -- the answers of a caller so far
  abbrev had : ℕ → List Reply
  had caller = get_or lists (caller - 1) []

  -- an entry
  pub shared-entry : (replies : List Reply) (entry : Obs) → item.step ≡ Append entry → Shared items all lists (item ∷ left) replies place → Shared items all lists left replies (place + 1)
  shared-entry replies entry is so = record {
    size = so.size;
    own = λ caller from to. ap (λ (rest : List Reply). had caller ++ rest) (sym (share-entry caller (length (had caller) + 1) item left replies entry is)) ∙ so.own caller from to;
    few = λ caller. omega (arith, so.few caller);
    enough = so.enough ∙ asks-entry item left entry is;
  }

  module _ (reply : Reply) (others : List Reply) (asked : Asked) (is : item.step ≡ Ask asked) (item_from : 1 ≤ item.caller) (item_to : item.caller ≤ 16) (so : Shared items all lists (item ∷ left) (reply ∷ others) place) where
    abbrev given : Reply
    given = as_next item.caller (length (had item.caller) + 1) reply

    abbrev now : List (List Reply)
    now = with_answer lists item.caller reply

    mine : get_or now (item.caller - 1) [] ++ share item.caller (length (get_or now (item.caller - 1) nothing) + 1) left others ≡ share item.caller 1 items all
    mine =
        let written : get_or now (item.caller - 1) nothing ≡ had item.caller ++ given ∷ [] = get_or-set_same lists (item.caller - 1) (had item.caller ++ given ∷ []) nothing (omega (arith, so.size)) in
        let longer : length (had item.caller ++ given ∷ []) + 1 ≡ length (had item.caller) + 1 + 1 = omega (arith, length-append (had item.caller) (given ∷ [])) in
        let same : (item.caller == item.caller) ≡ true = eq-eqb item.caller item.caller refl in
        let next : share item.caller (length (had item.caller) + 1) (item ∷ left) (reply ∷ others) ≡ given ∷ share item.caller (length (had item.caller) + 1 + 1) left others =
        share-ask item.caller (length (had item.caller) + 1) item left reply others asked is ∙ rw same refl in
        subst (λ (xs : List Reply). xs ++ share item.caller (length xs + 1) left others ≡ share item.caller 1 items all) (sym written)
        (append_assoc (had item.caller) (given ∷ []) (share item.caller (length (had item.caller ++ given ∷ []) + 1) left others)
        ∙ (ap (λ (n : ℕ). had item.caller ++ given ∷ share item.caller n left others) longer
        ∙ (ap (λ (rest : List Reply). had item.caller ++ rest) (sym next) ∙ so.own item.caller item_from item_to)))

    others-own : (caller : ℕ) → 1 ≤ caller → caller ≤ 16 → (item.caller == caller) ≡ false → get_or now (caller - 1) [] ++ share caller (length (get_or now (caller - 1) nothing) + 1) left others ≡ share caller 1 items all
    others-own caller from to isnt =
        let other = apart item.caller caller isnt in
        let kept : get_or now (caller - 1) nothing ≡ had caller = get_or-set_other lists (item.caller - 1) (caller - 1) (had item.caller ++ given ∷ []) nothing (omega (arith, other, item_from, from)) in
        let next : share caller (length (had caller) + 1) (item ∷ left) (reply ∷ others) ≡ share caller (length (had caller) + 1) left others =
        share-ask caller (length (had caller) + 1) item left reply others asked is ∙ rw isnt refl in
        subst (λ (xs : List Reply). xs ++ share caller (length xs + 1) left others ≡ share caller 1 items all) (sym kept)
        (ap (λ (rest : List Reply). had caller ++ rest) (sym next) ∙ so.own caller from to)

    own-now : (caller : ℕ) → 1 ≤ caller → caller ≤ 16 → (same : Bool) → (item.caller == caller) ≡ same → get_or now (caller - 1) [] ++ share caller (length (get_or now (caller - 1) nothing) + 1) left others ≡ share caller 1 items all
    own-now caller from to true same = subst (λ (c : ℕ). get_or now (c - 1) [] ++ share c (length (get_or now (c - 1) nothing) + 1) left others ≡ share c 1 items all) (eqb-true item.caller caller same) mine
    own-now caller from to false isnt = others-own caller from to isnt

    few-now : (caller : ℕ) (same : Bool) → (caller - 1 == item.caller - 1) ≡ same → length (get_or now (caller - 1) nothing) ≤ place + 1
    few-now caller true same =
        let at = eqb-true (caller - 1) (item.caller - 1) same in
        omega (arith, ap length (get_or-set_at lists (item.caller - 1) (caller - 1) (had item.caller ++ given ∷ []) nothing at (omega (arith, so.size))), length-append (had item.caller) (given ∷ []), so.few item.caller)
    few-now caller false isnt =
        omega (arith, ap length (get_or-set_other lists (item.caller - 1) (caller - 1) (had item.caller ++ given ∷ []) nothing (apart (caller - 1) (item.caller - 1) isnt)), so.few caller)

    -- an ask
    pub shared-ask : Shared items all now left others (place + 1)
    shared-ask = record {
      size = length-set lists (item.caller - 1) (had item.caller ++ given ∷ []) ∙ so.size;
      own = λ caller from to. own-now caller from to (item.caller == caller) refl;
      few = λ caller. few-now caller (caller - 1 == item.caller - 1) refl;
      enough = let count : length (reply ∷ others) ≡ 1 + count_by is_ask left = so.enough ∙ asks-ask item left asked is in omega (arith, count);
    }

-- ---- the end

-- what a list is that was lent as a whole
pub lent-back : {A : Type 0} (n : ℕ) (new old : List A) → length new ≡ length old → n ≡ length old → take n (new ++ drop (length new) old) ≡ new
lent-back n new old same is =
    let none : drop (length new) old ≡ [] = drop-past old (length new) (omega arith) in
    rw (none, append-nil) (take_all n new (omega arith))

-- the steps of a journal as those of one caller are those of its one script
pub one-steps : (line : ℕ) (items : List Item) → items_of (script_from line items) ≡ as_one_caller items
one-steps line [] = refl
one-steps line (item ∷ items) = ap (λ (rest : List Item). record { caller = 1; step = item.step } ∷ rest) (one-steps (line + 1) items)

-- they make the same book
pub same-book : (items : List Item) → book_of (as_one_caller items) ≡ book_of items
same-book [] = refl
same-book (item ∷ items) = by item.step refl (same-book items)
  where
    by : (step : Step) → item.step ≡ step → book_of (as_one_caller items) ≡ book_of items → book_of (as_one_caller (item ∷ items)) ≡ book_of (item ∷ items)
    by (Append entry) is same = rw is (ap (λ (rest : List Obs). entry ∷ rest) same)
    by (Ask asked) is same = rw is same

-- an item more
from-entry : (caller number version : ℕ) (item : Item) (items : List Item) (entry : Obs) → item.step ≡ Append entry → asks_from caller number version (item ∷ items) ≡ asks_from caller number (version + 1) items
from-entry caller number version item items entry is = rw is refl

from-ask : (caller number version : ℕ) (item : Item) (items : List Item) (asked : Asked) → item.step ≡ Ask asked → asks_from caller number version (item ∷ items)
    ≡ (if item.caller == caller then record { caller = caller; number = number; version = version; asked = asked } ∷ asks_from caller (number + 1) version items else asks_from caller number version items)
from-ask caller number version item items asked is = rw is refl

-- there are as many asks as items that ask
asked-length : (n v : ℕ) (items : List Item) → length (asks_from 1 n v (as_one_caller items)) ≡ count_by is_ask items
asked-length n v [] = refl
asked-length n v (item ∷ items) = by item.step refl (λ n2 v2. asked-length n2 v2 items)
  where
    by : (step : Step) → item.step ≡ step → ((n2 v2 : ℕ) → length (asks_from 1 n2 v2 (as_one_caller items)) ≡ count_by is_ask items) → length (asks_from 1 n v (as_one_caller (item ∷ items))) ≡ count_by is_ask (item ∷ items)
    by (Append entry) is rest = ap length (from-entry 1 n v (record { caller = 1; step = item.step }) (as_one_caller items) entry is) ∙ (rest n (v + 1) ∙ sym (asks-entry item items entry is))
    by (Ask asked) is rest = omega (arith, ap length (from-ask 1 n v (record { caller = 1; step = item.step }) (as_one_caller items) asked is), rest (n + 1) v, asks-ask item items asked is)

-- the one caller's asks
one-asks : (items : List Item) → asks_of (as_one_caller items) ≡ asks_from 1 1 0 (as_one_caller items)
one-asks items = subst (λ (is : List Item). asks_of is ≡ asks_from 1 1 0 is) (one-steps 2 items) (one-caller (script_from 2 items))

-- and the answers to them
pub answers-length : (contracts : Contracts) (names : NameLists) (items : List Item) → length (answers_of contracts names (as_one_caller items)) ≡ count_by is_ask items
answers-length contracts names items =
    length-map (asks_of (as_one_caller items)) (answer_to contracts names (book_of (as_one_caller items))) ∙ (ap length (one-asks items) ∙ asked-length 1 0 items)

module _ (contracts : Contracts) (names : NameLists) (book : List Obs) where
  abbrev answer : Asking → Reply
  answer = answer_to contracts names book

  by-mine : (caller number n v : ℕ) (items : List Item) (asked : Asked) (is_mine : Bool)
      → share caller (number + 1) items (map answer (asks_from 1 (n + 1) v (as_one_caller items))) ≡ map answer (asks_from caller (number + 1) v items)
      → share caller number items (map answer (asks_from 1 (n + 1) v (as_one_caller items))) ≡ map answer (asks_from caller number v items)
      → (if is_mine then as_next caller number (answer (record { caller = 1; number = n; version = v; asked = asked })) ∷ share caller (number + 1) items (map answer (asks_from 1 (n + 1) v (as_one_caller items)))
      else share caller number items (map answer (asks_from 1 (n + 1) v (as_one_caller items))))
      ≡ map answer (if is_mine then record { caller = caller; number = number; version = v; asked = asked } ∷ asks_from caller (number + 1) v items else asks_from caller number v items)
  by-mine caller number n v items asked true more same = ap (λ (others : List Reply). answer (record { caller = caller; number = number; version = v; asked = asked }) ∷ others) more
  by-mine caller number n v items asked false more same = same

  -- the share of a caller of all answers are the answers to its asks
  share-answers : (caller number n v : ℕ) (items : List Item) → share caller number items (map answer (asks_from 1 n v (as_one_caller items))) ≡ map answer (asks_from caller number v items)
  share-answers caller number n v [] = refl
  share-answers caller number n v (item ∷ items) = by item.step refl (λ number2 n2 v2. share-answers caller number2 n2 v2 items)
    where
      by : (step : Step) → item.step ≡ step → ((number2 n2 v2 : ℕ) → share caller number2 items (map answer (asks_from 1 n2 v2 (as_one_caller items))) ≡ map answer (asks_from caller number2 v2 items))
          → share caller number (item ∷ items) (map answer (asks_from 1 n v (as_one_caller (item ∷ items)))) ≡ map answer (asks_from caller number v (item ∷ items))
      by (Append entry) is rest =
          let front = from-entry 1 n v (record { caller = 1; step = item.step }) (as_one_caller items) entry is in
          ap (λ (asks : List Asking). share caller number (item ∷ items) (map answer asks)) front
          ∙ (share-entry caller number item items (map answer (asks_from 1 n (v + 1) (as_one_caller items))) entry is
          ∙ (rest number n (v + 1) ∙ ap (map answer) (sym (from-entry caller number v item items entry is))))
      by (Ask asked) is rest =
          let front = from-ask 1 n v (record { caller = 1; step = item.step }) (as_one_caller items) asked is in
          let others = asks_from 1 (n + 1) v (as_one_caller items) in
          ap (λ (asks : List Asking). share caller number (item ∷ items) (map answer asks)) front
          ∙ (share-ask caller number item items (answer (record { caller = 1; number = n; version = v; asked = asked })) (map answer others) asked is
          ∙ (by-mine caller number n v items asked (item.caller == caller) (rest (number + 1) (n + 1) v) (rest number (n + 1) v) ∙ ap (map answer) (sym (from-ask caller number v item items asked is))))

-- lists one behind the other
gathered : (lists : List (Vec Reply Global)) (f : ℕ → List Reply) (a : ℕ) → ((k : ℕ) → k < length lists → get_or (answer_lists lists) k [] ≡ f (a + k)) → replies_of lists ≡ flat_map f (range_with_len a (length lists))
gathered [] f a each = refl
gathered (list ∷ lists) f a each =
    let first : list.items ≡ f a = each 0 (omega arith) ∙ ap f (omega arith) in
    let rest : replies_of lists ≡ flat_map f (range_with_len (a + 1) (length lists)) = gathered lists f (a + 1) (λ k less. each (suc k) (omega (arith, less)) ∙ ap f (omega arith)) in
    rw (first, rest) refl

map-flat : {X Y : Type 0} (f : X → Y) (g : ℕ → List X) (h : ℕ → List X) (ns : List ℕ) → ((n : ℕ) → g n ≡ h n) → map f (flat_map g ns) ≡ flat_map (λ n. map f (h n)) ns
map-flat f g h [] same = refl
map-flat f g h (n ∷ ns) same = map-append f (g n) (flat_map g ns) ∙ rw (map-flat f g h ns same, same n) refl

-- the answers to the asks of a journal
pub all-shared : (contracts : Contracts) (names : NameLists) (items : List Item) (all : List Reply) (lists : List (Vec Reply Global)) (replies : List Reply) (place : ℕ) → Shared items all (answer_lists lists) [] replies place
    → all ≡ answers_of contracts names (as_one_caller items) → replies_of lists ≡ answers_of contracts names items
unfolding asks_of
all-shared contracts names items all lists replies place so all-are =
    let size : length lists ≡ 16 = omega (arith, length-map lists (λ (l : Vec Reply Global). l.items), so.size) in
    let given : all ≡ map (answer contracts names (book_of items)) (asks_from 1 1 0 (as_one_caller items)) =
    all-are ∙ (ap (λ (b : List Obs). map (answer_to contracts names b) (asks_of (as_one_caller items))) (same-book items) ∙ ap (map (answer contracts names (book_of items))) (one-asks items)) in
    let each : (k : ℕ) → k < length lists → get_or (answer_lists lists) k [] ≡ map (answer contracts names (book_of items)) (asks_from (1 + k) 1 0 items) =
    λ k less. ap (λ (n : ℕ). get_or (answer_lists lists) n nothing) (omega arith) ∙ (sym (append-nil (get_or (answer_lists lists) (1 + k - 1) nothing)) ∙ (so.own (1 + k) (omega arith) (omega (arith, less, size))
    ∙ (ap (share (1 + k) 1 items) given ∙ share-answers contracts names (book_of items) (1 + k) 1 1 0 items))) in
    gathered lists (λ c. map (answer contracts names (book_of items)) (asks_from c 1 0 items)) 1 each
    ∙ (ap (λ (n : ℕ). flat_map (λ c. map (answer contracts names (book_of items)) (asks_from c 1 0 items)) (range_with_len 1 n)) size
    ∙ sym (map-flat (answer contracts names (book_of items)) (caller_asks items) (λ c. asks_from c 1 0 items) (range_with_len 1 16) (λ c. asks_in_turn items c)))

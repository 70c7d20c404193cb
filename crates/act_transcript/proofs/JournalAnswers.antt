-- The answers to the asks of a journal.
use Rattle.std.proofs.Common.{◌≡◌, ◌∙◌, ℕ, zero, suc, ◌+◌, ◌<◌, ◌≤◌, Bool, true, false, cond, if◌then◌else◌, List, [], ◌∷◌, length, map, get_or, refl, sym, ap, subst, arith}
use Rattle.std.specs.Prelude.{◌==◌}
use Rattle.std.specs.List.{All, count_by, flat_map, range_with_len, sum_by}
use Rattle.std.proofs.lemmas.Bool.{eqb-true}
use Rattle.std.proofs.lemmas.List.{length-append, length-map}
use Rattle.std.proofs.lemmas.List.Elements.{All-cons, All-head, All-map, All-nil, All-tail}
use Rattle.std.proofs.lemmas.List.Sums.{sum_by-cons}
use Rattle.act_engine.proofs.Lists.{all-flat}
use Rattle.act_history.specs.History.{History, entries_of, version_of}
use Rattle.act_model.specs.Answer.{Reply}
use Rattle.act_model.specs.Asks.{asks_of, caller_asks, is_ask_of}
use Rattle.act_model.specs.Journal.{book_of, is_known}
use Rattle.act_model.specs.Names.{NameLists}
use Rattle.act_model.specs.Run.{Stream}
use Rattle.act_model.specs.declared.asks.Asking.{Asking}
use Rattle.act_model.specs.declared.journal.Item.{Item}
use Rattle.act_model.specs.declared.journal.Step.{Step}
use Rattle.act_model.specs.declared.journal.Step.TheVariants.{Append, Ask}
use Rattle.act_model.specs.declared.observed.Obs.{Obs}
use Rattle.act_model.proofs.AsksInTurn.{asks_from, asks_in_turn}
use Rattle.act_profile.specs.Answers.{answer_to, answers_of}
use Rattle.act_profile.specs.Run.{Contracts}
use Rattle.act_transcript.specs.KnownLines.{IsReplyOn}
use Rattle.act_transcript.proofs.Replies.{reply-named, reply-on}

-- ---- whose they are

asks-known : (names : NameLists) (caller number version : ℕ) (items : List Item) → All (λ (item : Item). is_known names item.step ≡ true) items → All (λ (ask : Asking). is_known names (Ask ask.asked) ≡ true) (asks_from caller number version items)
asks-known names caller number version [] known = All-nil _
asks-known names caller number version (item ∷ items) known =
    by item.step refl (item.caller == caller) (λ n v. asks-known names caller n v items (All-tail (λ (i : Item). is_known names i.step ≡ true) item items known))
  where
    by : (step : Step) → item.step ≡ step → (mine : Bool) → ((n v : ℕ) → All (λ (ask : Asking). is_known names (Ask ask.asked) ≡ true) (asks_from caller n v items)) → All (λ (ask : Asking). is_known names (Ask ask.asked) ≡ true) (elim step [
      | Append entry ↦ asks_from caller number (version + 1) items
      | Ask asked ↦ if mine
          then record { caller = caller; number = number; version = version; asked = asked } ∷ asks_from caller (number + 1) version items
          else asks_from caller number version items
    ])
    by (Append entry) is mine rest = rest number (version + 1)
    by (Ask asked) is true rest =
        All-cons (λ (ask : Asking). is_known names (Ask ask.asked) ≡ true) (record { caller = caller; number = number; version = version; asked = asked }) (asks_from caller (number + 1) version items)
        (subst (λ (s : Step). is_known names s ≡ true) is (All-head (λ (i : Item). is_known names i.step ≡ true) item items known)) (rest (number + 1) version)
    by (Ask asked) is false rest = rest number version

-- each contract that an answer is of has a name
pub answers-named : (contracts : Contracts) (names : NameLists) (items : List Item) → All (λ (item : Item). is_known names item.step ≡ true) items
    → All (λ (answer : Reply). All (λ (run : ℕ × Stream). run.0 < length names.contracts) answer.runs) (answers_of contracts names items)
unfolding asks_of
answers-named contracts names items known =
    All-map (λ (answer : Reply). All (λ (run : ℕ × Stream). run.0 < length names.contracts) answer.runs) (answer_to contracts names (book_of items)) (asks_of items)
    (λ k d within. reply-named contracts names (book_of items) (get_or (asks_of items) k d) (all-known k d within))
  where
    all-known : All (λ (ask : Asking). is_known names (Ask ask.asked) ≡ true) (asks_of items)
    all-known = all-flat (λ (ask : Asking). is_known names (Ask ask.asked) ≡ true) (caller_asks items) (range_with_len 1 16)
        (λ caller. subst (λ (asks : List Asking). All (λ (ask : Asking). is_known names (Ask ask.asked) ≡ true) asks) (sym (asks_in_turn items caller)) (asks-known names caller 1 0 items known))

-- ---- how many answers there are

pub asked-count : (caller number version : ℕ) (items : List Item) → length (asks_from caller number version items) ≡ count_by (is_ask_of caller) items
asked-count caller number version [] = refl
asked-count caller number version (item ∷ items) = by item.step refl (item.caller == caller) refl (λ n v. asked-count caller n v items) ∙ sym (sum_by-cons (λ (i : Item). cond (is_ask_of caller i) 1 0) item items)
  where
    by : (step : Step) → item.step ≡ step → (mine : Bool) → (item.caller == caller) ≡ mine → ((n v : ℕ) → length (asks_from caller n v items) ≡ count_by (is_ask_of caller) items) → length (asks_from caller number version (item ∷ items)) ≡ cond (is_ask_of caller item) 1 0 + count_by (is_ask_of caller) items
    by (Append entry) is mine same rest = rw is (omega (arith, rest number (version + 1)))
    by (Ask asked) is true same rest = rw (is, same) (omega (arith, rest (number + 1) version))
    by (Ask asked) is false same rest = rw (is, same) (omega (arith, rest number version))

-- a number is one of a range once at most
pub none-below : (x a m : ℕ) → x < a → count_by (λ c. x == c) (range_with_len a m) ≡ 0
none-below x a zero less = refl
none-below x a (suc m) less = sum_by-cons (λ c. cond (x == c) 1 0) a (range_with_len (a + 1) m) ∙ by (x == a) refl (none-below x (a + 1) m (omega (arith, less)))
  where
    by : (same : Bool) → (x == a) ≡ same → count_by (λ c. x == c) (range_with_len (a + 1) m) ≡ 0 → cond (x == a) 1 0 + count_by (λ c. x == c) (range_with_len (a + 1) m) ≡ 0
    by true is rest = absurd (omega (arith, eqb-true x a is, less))
    by false is rest = rw is (omega (arith, rest))

once-at-most : (x a m : ℕ) → count_by (λ c. x == c) (range_with_len a m) ≤ 1
once-at-most x a zero = omega arith
once-at-most x a (suc m) = by (x == a) refl (once-at-most x (a + 1) m)
  where
    more : count_by (λ c. x == c) (range_with_len a (suc m)) ≡ cond (x == a) 1 0 + count_by (λ c. x == c) (range_with_len (a + 1) m)
    more = sum_by-cons (λ c. cond (x == c) 1 0) a (range_with_len (a + 1) m)

    by : (same : Bool) → (x == a) ≡ same → count_by (λ c. x == c) (range_with_len (a + 1) m) ≤ 1 → count_by (λ c. x == c) (range_with_len a (suc m)) ≤ 1
    by true is rest =
        let one : ◌≡◌ {A = ℕ} (cond (x == a) 1 0) 1 = rw is refl in
        omega (arith, more, one, none-below x (a + 1) m (omega (arith, eqb-true x a is)))
    by false is rest =
        let none : ◌≡◌ {A = ℕ} (cond (x == a) 1 0) 0 = rw is refl in
        omega (arith, more, none, rest)

-- nothing counts
pub sum-none : (cs : List ℕ) → sum_by (λ c. 0) cs ≡ 0
sum-none [] = refl
sum-none (c ∷ cs) = omega (arith, sum_by-cons (λ c. 0) c cs, sum-none cs)

-- an item is an ask of one caller at most
one-asker : (item : Item) (a m : ℕ) → count_by (λ c. is_ask_of c item) (range_with_len a m) ≤ 1
one-asker item a m = by item.step refl
  where
    by : (step : Step) → item.step ≡ step → count_by (λ c. is_ask_of c item) (range_with_len a m) ≤ 1
    by (Append entry) is = rw is (omega (arith, sum-none (range_with_len a m)))
    by (Ask asked) is = rw is (once-at-most item.caller a m)

pub sum-both : (f g : ℕ → ℕ) (cs : List ℕ) → sum_by (λ c. f c + g c) cs ≡ sum_by f cs + sum_by g cs
sum-both f g [] = refl
sum-both f g (c ∷ cs) = omega (arith, sum_by-cons (λ c. f c + g c) c cs, sum_by-cons f c cs, sum_by-cons g c cs, sum-both f g cs)

pub sum-each : (f g : ℕ → ℕ) (cs : List ℕ) → ((c : ℕ) → f c ≡ g c) → sum_by f cs ≡ sum_by g cs
sum-each f g [] same = refl
sum-each f g (c ∷ cs) same = omega (arith, sum_by-cons f c cs, sum_by-cons g c cs, same c, sum-each f g cs same)

few-asks : (items : List Item) (a m : ℕ) → sum_by (λ c. count_by (is_ask_of c) items) (range_with_len a m) ≤ length items
few-asks [] a m = omega (arith, sum-none (range_with_len a m))
few-asks (item ∷ items) a m =
    let cs = range_with_len a m in
    let first = sum-each (λ c. count_by (is_ask_of c) (item ∷ items)) (λ c. cond (is_ask_of c item) 1 0 + count_by (is_ask_of c) items) cs (λ c. sum_by-cons (λ (i : Item). cond (is_ask_of c i) 1 0) item items) in
    omega (arith, first, sum-both (λ c. cond (is_ask_of c item) 1 0) (λ c. count_by (is_ask_of c) items) cs, one-asker item a m, few-asks items a m)

pub length-flat : {X Y : Type 0} (f : X → List Y) (xs : List X) → length (flat_map f xs) ≡ sum_by (λ x. length (f x)) xs
length-flat f [] = refl
length-flat f (x ∷ xs) = omega (arith, length-append (f x) (flat_map f xs), sum_by-cons (λ x. length (f x)) x xs, length-flat f xs)

-- there are no more answers than items
pub answers-few : (contracts : Contracts) (names : NameLists) (items : List Item) → length (answers_of contracts names items) ≤ length items
unfolding asks_of
answers-few contracts names items =
    let each = sum-each (λ c. length (caller_asks items c)) (λ c. count_by (is_ask_of c) items) (range_with_len 1 16) (λ c. ap length (asks_in_turn items c) ∙ asked-count c 1 0 items) in
    omega (arith, length-map (asks_of items) (answer_to contracts names (book_of items)), length-flat (caller_asks items) (range_with_len 1 16), each, few-asks items 1 16)

-- ---- on a board

-- the entries before an ask are some of the journal's
asks-within : (caller number version most : ℕ) (items : List Item) → version + length (book_of items) ≤ most → All (λ (ask : Asking). ask.version ≤ most) (asks_from caller number version items)
asks-within caller number version most [] within = All-nil _
asks-within caller number version most (item ∷ items) within =
    by item.step refl (item.caller == caller) (λ n v few. asks-within caller n v most items few)
  where
    by : (step : Step) → item.step ≡ step → (mine : Bool) → ((n v : ℕ) → v + length (book_of items) ≤ most → All (λ (ask : Asking). ask.version ≤ most) (asks_from caller n v items)) → All (λ (ask : Asking). ask.version ≤ most) (elim step [
      | Append entry ↦ asks_from caller number (version + 1) items
      | Ask asked ↦ if mine
          then record { caller = caller; number = number; version = version; asked = asked } ∷ asks_from caller (number + 1) version items
          else asks_from caller number version items
    ])
    by (Append entry) is mine rest = rest number (version + 1) (let few = within in omega (arith, rw is at few))
    by (Ask asked) is true rest =
        let few = within in
        let now : version + length (book_of items) ≤ most = rw is at few in
        All-cons (λ (ask : Asking). ask.version ≤ most) (record { caller = caller; number = number; version = version; asked = asked }) (asks_from caller (number + 1) version items) (omega (arith, now)) (rest (number + 1) version now)
    by (Ask asked) is false rest = rest number version (let few = within in rw is at few)

-- the answers to the asks of a journal whose entries a board has are answers of it
pub replies-on : (board : History) (names : NameLists) (items : List Item) → entries_of board ≡ book_of items → All (IsReplyOn board) (answers_of board.portfolio.contracts names items)
unfolding asks_of
replies-on board names items entries =
    let within : All (λ (ask : Asking). ask.version ≤ version_of board) (asks_of items) =
    all-flat (λ (ask : Asking). ask.version ≤ version_of board) (caller_asks items) (range_with_len 1 16)
    (λ caller. subst (λ (asks : List Asking). All (λ (ask : Asking). ask.version ≤ version_of board) asks) (sym (asks_in_turn items caller)) (asks-within caller 1 0 (version_of board) items (omega (arith, ap length entries)))) in
    subst (λ (book : List Obs). All (IsReplyOn board) (map (answer_to board.portfolio.contracts names book) (asks_of items))) entries
    (All-map (IsReplyOn board) (answer_to board.portfolio.contracts names (entries_of board)) (asks_of items) (λ k d below. reply-on board names (get_or (asks_of items) k d) (within k d below)))

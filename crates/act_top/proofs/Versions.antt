-- Versions never go back: of one caller a later answer is at the version of an earlier one or at a later one.
use Rattle.std.proofs.Common.{◌≡◌, ℕ, zero, suc, ◌+◌, ◌<◌, ◌≤◌, Bool, true, false, List, [], ◌∷◌, ◌++◌, map, refl, sym, subst, arith}
use Rattle.std.specs.Prelude.{◌==◌}
use Rattle.std.specs.List.{All, AllPairs, flat_map, range_with_len}
use Rattle.std.proofs.lemmas.List.Elements.{All-append, All-cons, All-map, All-nil, All-weaker}
use Rattle.std.proofs.lemmas.List.Kept.{AllPairs-cons}
use Rattle.act_model.specs.Asks.{asks_of, caller_asks}
use Rattle.act_model.specs.Journal.{book_of}
use Rattle.act_model.specs.declared.asks.Asking.{Asking}
use Rattle.act_model.specs.declared.journal.Item.{Item}
use Rattle.act_model.specs.declared.journal.Step.{Step}
use Rattle.act_model.specs.declared.journal.Step.TheVariants.{Append, Ask}
use Rattle.act_model.proofs.AsksInTurn.{asks_from, asks_in_turn}
use Rattle.act_profile.specs.Answers.{answer_to}
use Rattle.act_top.specs.Laws.{GoesOn, VersionsNeverGoBack}

-- ---- pairs of a list

pairs-behind : {X : Type 0} (R : X → X → Type 0) (x : X) (xs : List X) → AllPairs R (x ∷ xs) → AllPairs R xs
pairs-behind R x xs pairs = λ i j d lt within. pairs (suc i) (suc j) d (omega arith) (omega arith)

pairs-first : {X : Type 0} (R : X → X → Type 0) (x : X) (xs : List X) → AllPairs R (x ∷ xs) → All (R x) xs
pairs-first R x xs pairs = λ k d within. pairs 0 (suc k) d (omega arith) (omega arith)

pairs-nil : {X : Type 0} (R : X → X → Type 0) → AllPairs R []
pairs-nil R = λ i j d lt within. absurd (omega arith)

-- those of two lists, and those between them
pairs-append : {X : Type 0} (R : X → X → Type 0) (xs ys : List X) → AllPairs R xs → AllPairs R ys → All (λ x. All (R x) ys) xs → AllPairs R (xs ++ ys)
pairs-append R [] ys one other across = other
pairs-append R (x ∷ xs) ys one other across =
    AllPairs-cons R x (xs ++ ys) (All-append (R x) xs ys (pairs-first R x xs one) (across 0 x (omega arith)))
    (pairs-append R xs ys (pairs-behind R x xs one) other (λ k d within. across (suc k) d (omega arith)))

pairs-map : {X Y : Type 0} (R : Y → Y → Type 0) (f : X → Y) (xs : List X) → AllPairs (λ x y. R (f x) (f y)) xs → AllPairs R (map f xs)
pairs-map R f [] pairs = pairs-nil R
pairs-map R f (x ∷ xs) pairs =
    AllPairs-cons R (f x) (map f xs) (All-map (R (f x)) f xs (pairs-first (λ a b. R (f a) (f b)) x xs pairs))
    (pairs-map R f xs (pairs-behind (λ a b. R (f a) (f b)) x xs pairs))

-- ---- the asks of one caller

-- an ask of this caller, with this number or a greater one, at this version or at a later one
record IsFrom (caller number version : ℕ) (asking : Asking) : Type 0 where
  pub own : asking.caller ≡ caller
  pub behind : number ≤ asking.number
  pub since : version ≤ asking.version

-- what its answer says of the answer to a later one
abbrev AskGoesOn : Asking → Asking → Type 0
AskGoesOn earlier later = earlier.caller ≡ later.caller → (earlier.number < later.number) × (earlier.version ≤ later.version)

-- asks that are all so, each behind those before it
record AreInTurn (caller number version : ℕ) (asks : List Asking) : Type 0 where
  pub from : All (IsFrom caller number version) asks
  pub pairs : AllPairs AskGoesOn asks

later-turn : (caller number version next : ℕ) (asks : List Asking) → version ≤ next → AreInTurn caller number next asks → AreInTurn caller number version asks
later-turn caller number version next asks le turn = record {
  from = All-weaker (IsFrom caller number next) (IsFrom caller number version) (λ a is. record { own = is.own; behind = is.behind; since = omega (arith, is.since) }) asks turn.from;
  pairs = turn.pairs;
}

first-turn : (asking : Asking) (asks : List Asking) → AreInTurn asking.caller (asking.number + 1) asking.version asks → AreInTurn asking.caller asking.number asking.version (asking ∷ asks)
first-turn asking asks turn = record {
  from = All-cons (IsFrom asking.caller asking.number asking.version) asking asks (record { own = refl; behind = omega arith; since = omega arith })
      (All-weaker (IsFrom asking.caller (asking.number + 1) asking.version) (IsFrom asking.caller asking.number asking.version)
      (λ a is. record { own = is.own; behind = omega (arith, is.behind); since = is.since }) asks turn.from);
  pairs = AllPairs-cons AskGoesOn asking asks
      (All-weaker (IsFrom asking.caller (asking.number + 1) asking.version) (AskGoesOn asking) (λ a is same. (omega (arith, is.behind), is.since)) asks turn.from) turn.pairs;
}

in-turn : (caller number version : ℕ) (items : List Item) → AreInTurn caller number version (asks_from caller number version items)
in-turn caller number version [] = record { from = All-nil (IsFrom caller number version); pairs = pairs-nil AskGoesOn }
in-turn caller number version (item ∷ items) = by (λ n v. in-turn caller n v items) item.step refl (item.caller == caller) refl
  where
    by : ((n v : ℕ) → AreInTurn caller n v (asks_from caller n v items)) → (step : Step) → item.step ≡ step → (mine : Bool) → (item.caller == caller) ≡ mine → AreInTurn caller number version (asks_from caller number version (item ∷ items))
    by rest (Append entry) is mine same = rw is (later-turn caller number version (version + 1) (asks_from caller number (version + 1) items) (omega arith) (rest number (version + 1)))
    by rest (Ask asked) is true same =
        rw (is, same) (first-turn (record { caller = caller; number = number; version = version; asked = asked }) (asks_from caller (number + 1) version items) (rest (number + 1) version))
    by rest (Ask asked) is false same = rw (is, same) (rest number version)

-- ---- the asks of all callers

module _ (items : List Item) where
  caller-turn : (caller : ℕ) → AreInTurn caller 1 0 (caller_asks items caller)
  caller-turn caller = subst (AreInTurn caller 1 0) (sym (asks_in_turn items caller)) (in-turn caller 1 0 items)

  -- the asks of this caller and of those behind it
  abbrev asks-behind : ℕ → ℕ → List Asking
  asks-behind caller count = flat_map (caller_asks items) (range_with_len caller count)

  callers-behind : (caller count : ℕ) → All (λ (asking : Asking). caller ≤ asking.caller) (asks-behind caller count)
  callers-behind caller zero = All-nil (λ (asking : Asking). caller ≤ asking.caller)
  callers-behind caller (suc count) =
      All-append (λ (asking : Asking). caller ≤ asking.caller) (caller_asks items caller) (asks-behind (caller + 1) count)
      (All-weaker (IsFrom caller 1 0) (λ (asking : Asking). caller ≤ asking.caller) (λ a is. omega (arith, is.own)) (caller_asks items caller) (caller-turn caller).from)
      (All-weaker (λ (asking : Asking). caller + 1 ≤ asking.caller) (λ (asking : Asking). caller ≤ asking.caller) (λ a is. omega (arith, is)) (asks-behind (caller + 1) count) (callers-behind (caller + 1) count))

  asks-pairs : (caller count : ℕ) → AllPairs AskGoesOn (asks-behind caller count)
  asks-pairs caller zero = pairs-nil AskGoesOn
  asks-pairs caller (suc count) =
      pairs-append AskGoesOn (caller_asks items caller) (asks-behind (caller + 1) count) (caller-turn caller).pairs (asks-pairs (caller + 1) count)
      (All-weaker (IsFrom caller 1 0) (λ (earlier : Asking). All (AskGoesOn earlier) (asks-behind (caller + 1) count)) (λ earlier is.
      All-weaker (λ (later : Asking). caller + 1 ≤ later.caller) (AskGoesOn earlier) (λ later behind same. absurd (omega (arith, is.own, behind, same))) (asks-behind (caller + 1) count) (callers-behind (caller + 1) count))
      (caller_asks items caller) (caller-turn caller).from)

pub versions-never-go-back : VersionsNeverGoBack
unfolding asks_of
versions-never-go-back contracts names items = pairs-map GoesOn (answer_to contracts names (book_of items)) (asks_of items) (asks-pairs items 1 16)

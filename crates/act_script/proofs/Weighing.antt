-- Asks, one after the other.
use Rattle.std.proofs.Common.{◌≡◌, ℕ, ◌+◌, ◌<◌, nat_lt, Bool, true, false, if◌then◌else◌, List, [], ◌∷◌, ◌++◌, find, length, get_or, map, slice_get, take, Option, Some, option_and_then, option_map, Vec, Global, refl, sym, ap, subst, ◌∙◌, append_assoc, length-append, arith}
use Rattle.std.proofs.lemmas.List.{length-map, take_at}
use Rattle.std.proofs.lemmas.List.Sums.{sum_by-append}
use Rattle.std.proofs.Math.ListN.{get_or-map}
use Rattle.std.specs.List.{All, range_with_len}
use Rattle.act_model.specs.declared.journal.Line.{Line}
use Rattle.act_script.specs.Asks.{AsksBelow, line_lists}
use Rattle.act_script.specs.Spending.{overweight_behind}
use Rattle.act_script.specs.Weight.{WeighedAsk, overweight, total_weight}
use Rattle.act_model.proofs.Lists.{behind}

-- ---- the first ask past the limit

-- the script and the line of the ask at a place
abbrev told : List WeighedAsk → Option ℕ → Option (ℕ × ℕ)
told asks place = option_map (λ (ask : WeighedAsk). (ask.script, ask.line)) (option_and_then (slice_get asks) place)

-- the asks up to that place weigh too much
abbrev past : List WeighedAsk → ℕ → Bool
past asks place = nat_lt 4_194_304 (total_weight (take (place + 1) asks))

heavier : (front : List WeighedAsk) (ask : WeighedAsk) → total_weight (front ++ ask ∷ []) ≡ total_weight front + ask.weight
heavier front ask = let more = sum_by-append (λ (a : WeighedAsk). a.weight) front (ask ∷ []) in omega (arith, more)

up_to : (front back : List WeighedAsk) (ask : WeighedAsk) → total_weight (take (length front + 1) (front ++ ask ∷ back)) ≡ total_weight front + ask.weight
up_to front back ask =
    let regrouped : front ++ ask ∷ back ≡ (front ++ ask ∷ []) ++ back = sym (append_assoc front (ask ∷ []) back) in
    let first : take (length front + 1) (front ++ ask ∷ back) ≡ front ++ ask ∷ [] = rw regrouped (take_at (front ++ ask ∷ []) back (length front + 1) (length-append front (ask ∷ []))) in
    rw first (heavier front ask)

first_by : (front back : List WeighedAsk) (ask : WeighedAsk) (over : Bool) → nat_lt 4_194_304 (total_weight front + ask.weight) ≡ over
    → told (front ++ ask ∷ back) (find (past (front ++ ask ∷ back)) (range_with_len (length front + 1) (length back))) ≡ overweight_behind (total_weight front + ask.weight) back
    → told (front ++ ask ∷ back) (if over then Some (length front) else find (past (front ++ ask ∷ back)) (range_with_len (length front + 1) (length back)))
    ≡ (if over then Some (ask.script, ask.line) else overweight_behind (total_weight front + ask.weight) back)
first_by front back ask true is others = rw (behind front back ask) refl
first_by front back ask false is others = others

from_front : (front back : List WeighedAsk) → told (front ++ back) (find (past (front ++ back)) (range_with_len (length front) (length back))) ≡ overweight_behind (total_weight front) back
from_front front [] = refl
from_front front (ask ∷ back) =
    let regrouped : front ++ ask ∷ back ≡ (front ++ ask ∷ []) ++ back = sym (append_assoc front (ask ∷ []) back) in
    let longer : length (front ++ ask ∷ []) ≡ length front + 1 = length-append front (ask ∷ []) in
    let others : told (front ++ ask ∷ back) (find (past (front ++ ask ∷ back)) (range_with_len (length front + 1) (length back))) ≡ overweight_behind (total_weight front + ask.weight) back =
    rw (regrouped, sym longer, sym (heavier front ask)) (from_front (front ++ ask ∷ []) back) in
    rw (up_to front back ask) (first_by front back ask (nat_lt 4_194_304 (total_weight front + ask.weight)) refl others)

-- it is found ask by ask
pub in_turn : (asks : List WeighedAsk) → overweight asks ≡ overweight_behind 0 asks
in_turn asks = from_front [] asks

-- the contracts of the script at a place
pub asks_at : (count : ℕ) (scripts : List (Vec Line Global)) (script : Vec Line Global) (lines : List Line) (place : ℕ) → All (AsksBelow count) (line_lists scripts)
    → place < length scripts → script ≡ get_or scripts place script → lines ≡ script.items → AsksBelow count lines
asks_at count scripts script lines place all within at is =
    let here : AsksBelow count (get_or (map (λ (s : Vec Line Global). s.items) scripts) place script.items) = all place script.items (rw (length-map scripts (λ (s : Vec Line Global). s.items)) within) in
    subst (AsksBelow count) (get_or-map (λ (s : Vec Line Global). s.items) scripts place script ∙ ap (λ (s : Vec Line Global). s.items) (sym at) ∙ sym is) here

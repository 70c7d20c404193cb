-- Journals that hold the steps of several scripts.
use Rattle.std.proofs.Common.{◌≡◌, ◌≢◌, ℕ, zero, suc, ◌+◌, ◌<◌, ◌≤◌, Some, List, [], ◌∷◌, ◌++◌, length, map, unwrap_or, append-nil, refl, sym, ap, subst, ◌∙◌, arith}
use Rattle.std.specs.Prelude.{◌==◌, slice_get}
use Rattle.std.specs.List.{All, enumerate_from, filter, flat_map}
use Rattle.std.proofs.lemmas.Bool.{eq-eqb, ne_eqb}
use Rattle.std.proofs.lemmas.List.{map-append}
use Rattle.std.proofs.lemmas.List.Elements.{All-append, All-head, All-map, All-nil, All-tail, filter-append}
use Rattle.act_model.specs.declared.journal.Item.{Item}
use Rattle.act_model.specs.declared.journal.Line.{Line}
use Rattle.act_model.specs.declared.journal.Step.{Step}
use Rattle.act_session.specs.Interleaving.{IsInterleaving, steps_by, steps_of}
use Rattle.act_top.specs.Laws.{InTurnIsInterleaving, OneScriptIsJournal, items_by}
use Rattle.act_transcript.specs.Text.{items_of}
use Rattle.act_session.proofs.Interleaved.{mine-first, other-first}

-- ---- one script

-- a journal of one caller is the journal of its steps
of-steps : (items : List Item) → All (λ (item : Item). (1 ≤ item.caller) × (item.caller ≤ 1)) items → items ≡ map (λ (step : Step). record { caller = 1; step = step }) (steps_by items 1)
of-steps [] all = refl
of-steps (item ∷ items) all =
    let within = All-head (λ (i : Item). (1 ≤ i.caller) × (i.caller ≤ 1)) item items all in
    let first : item.caller ≡ 1 = omega (arith, within.0, within.1) in
    let steps = mine-first item items 1 (eq-eqb item.caller 1 first) in
    let rest = of-steps items (All-tail (λ (i : Item). (1 ≤ i.caller) × (i.caller ≤ 1)) item items all) in
    let here : item ≡ record { caller = 1; step = item.step } = ap (λ (c : ℕ). record { caller = c; step = item.step }) first in
    let one : ◌≡◌ {A = List Item} (item ∷ items) (record { caller = 1; step = item.step } ∷ map (λ (step : Step). record { caller = 1; step = step }) (steps_by items 1)) =
    ap (λ (i : Item). i ∷ items) here ∙ ap (λ (its : List Item). record { caller = 1; step = item.step } ∷ its) rest in
    one ∙ ap (map (λ (step : Step). record { caller = 1; step = step })) (sym steps)

of-lines : (lines : List Line) → map (λ (step : Step). record { caller = 1; step = step }) (steps_of lines) ≡ items_of lines
of-lines [] = refl
of-lines (line ∷ lines) = ap (λ (its : List Item). record { caller = 1; step = line.step } ∷ its) (of-lines lines)

pub one-script : OneScriptIsJournal
one-script lines items of =
    of-steps items of.callers ∙ (ap (map (λ (step : Step). record { caller = 1; step = step })) (of.steps 0 lines refl) ∙ of-lines lines)

-- ---- one script after the other

steps-append : (first others : List Item) (caller : ℕ) → steps_by (first ++ others) caller ≡ steps_by first caller ++ steps_by others caller
steps-append first others caller =
    ap (map (λ (item : Item). item.step)) (filter-append (λ (item : Item). item.caller == caller) first others) ∙ map-append (λ (item : Item). item.step) (filter (λ (item : Item). item.caller == caller) first) (filter (λ (item : Item). item.caller == caller) others)

-- the steps of a script's items are its caller's
own-steps : (caller : ℕ) (lines : List Line) → steps_by (items_by caller lines) caller ≡ steps_of lines
own-steps caller [] = refl
own-steps caller (line ∷ lines) =
    mine-first (record { caller = caller; step = line.step }) (items_by caller lines) caller (eq-eqb caller caller refl) ∙ ap (λ (steps : List Step). line.step ∷ steps) (own-steps caller lines)

-- and no other's
pub no-steps : (caller : ℕ) (items : List Item) → All (λ (item : Item). item.caller ≢ caller) items → steps_by items caller ≡ []
no-steps caller [] others = refl
no-steps caller (item ∷ items) others =
    other-first item items caller (ne_eqb item.caller caller (All-head (λ (i : Item). i.caller ≢ caller) item items others)) ∙ no-steps caller items (All-tail (λ (i : Item). i.caller ≢ caller) item items others)

abbrev from : ℕ → List (List Line) → List Item
from n lists = flat_map (λ (script : ℕ × List Line). items_by script.0 script.1) (enumerate_from n lists)

-- callers are counted from a number on
callers-from : (n : ℕ) (lists : List (List Line)) → All (λ (item : Item). (n ≤ item.caller) × (item.caller < n + length lists)) (from n lists)
callers-from n [] = All-nil (λ (item : Item). (n ≤ item.caller) × (item.caller < n + 0))
callers-from n (lines ∷ lists) =
    All-append (λ (item : Item). (n ≤ item.caller) × (item.caller < n + length (lines ∷ lists))) (items_by n lines) (from (n + 1) lists)
    (All-map (λ (item : Item). (n ≤ item.caller) × (item.caller < n + length (lines ∷ lists))) (λ (line : Line). record { caller = n; step = line.step }) lines (λ k d within. (omega arith, omega arith)))
    (λ k d within. let rest = callers-from (n + 1) lists k d within in (omega (arith, rest.0), omega (arith, rest.1)))

-- the steps of each caller are those of its script
steps-from : (n : ℕ) (lists : List (List Line)) (place : ℕ) (lines : List Line) → slice_get lists place ≡ Some lines → steps_by (from n lists) (n + place) ≡ steps_of lines
steps-from n [] place lines there = absurd (cc)
steps-from n (first ∷ lists) zero lines there =
    let same : first ≡ lines = ap (λ o. unwrap_or o lines) there in
    let number : n + 0 ≡ n = omega arith in
    let others = no-steps n (from (n + 1) lists) (λ k d within. let rest = callers-from (n + 1) lists k d within in λ is. absurd (omega (arith, rest.0, is))) in
    rw number (steps-append (items_by n first) (from (n + 1) lists) n ∙ (rw (own-steps n first, others, append-nil (steps_of first)) (ap steps_of same)))
steps-from n (first ∷ lists) (suc place) lines there =
    let number : n + suc place ≡ n + 1 + place = omega arith in
    let others = no-steps (n + suc place) (items_by n first) (All-map (λ (item : Item). item.caller ≢ n + suc place) (λ (line : Line). record { caller = n; step = line.step }) first (λ k d within. λ is. absurd (omega (arith, is)))) in
    steps-append (items_by n first) (from (n + 1) lists) (n + suc place) ∙ (rw others (rw number (steps-from (n + 1) lists place lines there)))

pub scripts-in-turn : InTurnIsInterleaving
scripts-in-turn lists = record {
  callers = λ k d within. let both = callers-from 1 lists k d within in (both.0, omega (arith, both.1));
  steps = λ place lines there. let number : place + 1 ≡ 1 + place = omega arith in rw number (steps-from 1 lists place lines there);
}

-- the journal of one script is an interleaving of it
pub in-turn-of-one : (lines : List Line) → IsInterleaving (lines ∷ []) (items_of lines)
in-turn-of-one lines = subst (IsInterleaving (lines ∷ [])) (append-nil (items_of lines)) (scripts-in-turn (lines ∷ []))

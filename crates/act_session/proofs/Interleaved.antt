-- The journal of several callers.
use Rattle.std.proofs.Common.{◌≡◌, ℕ, zero, suc, ◌+◌, ◌-◌, ◌<◌, true, false, List, [], ◌∷◌, length, get_or, inl, inr, refl, sym, subst, arith}
use Rattle.std.specs.Prelude.{◌==◌}
use Rattle.std.specs.List.{All}
use Rattle.std.proofs.lemmas.Bool.{cases_Bool, eq-eqb}
use Rattle.std.proofs.lemmas.List.Elements.{All-head, All-map, All-tail}
use Rattle.std.proofs.lemmas.Option.{slice_get-get_or}
use Rattle.act_model.specs.declared.journal.Item.{Item}
use Rattle.act_model.specs.declared.journal.Line.{Line}
use Rattle.act_model.specs.declared.journal.Step.{Step}
use Rattle.act_session.specs.Interleaving.{IsInterleaving, steps_by, steps_of}

-- the steps of a caller from an item on
pub mine-first : (item : Item) (items : List Item) (caller : ℕ) → (item.caller == caller) ≡ true → steps_by (item ∷ items) caller ≡ item.step ∷ steps_by items caller
mine-first item items caller mine = rw mine refl

pub other-first : (item : Item) (items : List Item) (caller : ℕ) → (item.caller == caller) ≡ false → steps_by (item ∷ items) caller ≡ steps_by items caller
other-first item items caller other = rw other refl

rest-steps : (P : Step → Type 0) (item : Item) (items : List Item) (caller : ℕ) → All P (steps_by (item ∷ items) caller) → All P (steps_by items caller)
rest-steps P item items caller all = elim (cases_Bool (item.caller == caller)) [
  | inl mine ↦ All-tail P item.step (steps_by items caller) (subst (λ (steps : List Step). All P steps) (mine-first item items caller mine) all)
  | inr other ↦ subst (λ (steps : List Step). All P steps) (other-first item items caller other) all
]

-- what holds of a caller's steps holds of each of its items
in-steps : (P : Step → Type 0) (items : List Item) (caller : ℕ) → All P (steps_by items caller) → (k : ℕ) (d : Item) → k < length items → (get_or items k d).caller ≡ caller → P (get_or items k d).step
in-steps P [] caller all k d within is = absurd (omega (arith, within))
in-steps P (item ∷ items) caller all zero d within is =
    All-head P item.step (steps_by items caller) (subst (λ (steps : List Step). All P steps) (mine-first item items caller (eq-eqb item.caller caller is)) all)
in-steps P (item ∷ items) caller all (suc k) d within is = in-steps P items caller (rest-steps P item items caller all) k d (omega (arith, within)) is

-- what holds of each step of the scripts holds of the journal's
pub interleaved-all : (P : Step → Type 0) (lists : List (List Line)) (items : List Item) → IsInterleaving lists items → All (All (λ (line : Line). P line.step)) lists → All (λ (item : Item). P item.step) items
interleaved-all P lists items of all k d within =
    let caller = (get_or items k d).caller in
    let place = caller - 1 in
    let from = (of.callers k d within).0 in
    let to = (of.callers k d within).1 in
    let there : place < length lists = omega (arith, from, to) in
    let lines = get_or lists place [] in
    let number : place + 1 ≡ caller = omega (arith, from) in
    let steps : steps_by items caller ≡ steps_of lines = subst (λ (c : ℕ). steps_by items c ≡ steps_of lines) number (of.steps place lines (slice_get-get_or lists place [] there)) in
    let each : All P (steps_of lines) = All-map P (λ (line : Line). line.step) lines (all place [] there) in
    in-steps P items caller (subst (λ (ss : List Step). All P ss) (sym steps) each) k d within refl

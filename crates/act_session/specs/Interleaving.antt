-- A journal of several callers' scripts. This profile's own.
use Rattle.std.specs.Prelude.{◌≡◌, ℕ, ◌+◌, ◌≤◌, ◌==◌, List, length, map, Some}
use Rattle.std.specs.List.{All, filter, slice_get}
use Rattle.act_model.specs.declared.journal.Item.{Item}
use Rattle.act_model.specs.declared.journal.Line.{Line}
use Rattle.act_model.specs.declared.journal.Step.{Step}

-- the items of a caller, in their order
abbrev pub items_by : ℕ → List Item → List Item
items_by i items = filter (λ (item : Item). item.caller == i) items

-- their steps
abbrev pub steps_by : List Item → ℕ → List Step
steps_by items i = map (λ (item : Item). item.step) (items_by i items)

-- the steps of a script
abbrev pub steps_of : List Line → List Step
steps_of lines = map (λ (line : Line). line.step) lines

-- A journal holds each caller's steps once and in its order: the steps of the items of a caller are those of the lines of its script.
-- Callers are numbered from 1 in the order of the scripts, and there are no items of others.
pub record IsInterleaving (scripts : List (List Line)) (items : List Item) : Type 0 where
  pub callers : All (λ (item : Item). (1 ≤ item.caller) × (item.caller ≤ length scripts)) items
  pub steps : (place : ℕ) (lines : List Line) → slice_get scripts place ≡ Some lines → steps_by items (place + 1) ≡ steps_of lines

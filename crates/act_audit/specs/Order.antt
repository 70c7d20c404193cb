-- Whether a journal holds the steps of scripts, each once and in its order, and where it first doesn't. This profile's own.
use Rattle.std.specs.Prelude.{◌≡◌, ◌≢◌, ◌⊎◌, ◌<◌, ◌≤◌, ℕ, ◌-◌, List, [], ◌∷◌, length, take, Option, Some, None, IsSome, option_and_then, slice_index, ⊤}
use Rattle.std.specs.List.{slice_get}
use Rattle.act_audit.specs.Journal.{line_at}
use Rattle.act_model.specs.declared.journal.Item.{Item}
use Rattle.act_model.specs.declared.journal.Line.{Line}
use Rattle.act_model.specs.declared.journal.Step.{Step}
use Rattle.act_session.specs.Interleaving.{IsInterleaving, items_by, steps_of}

-- where scripts are given, the journal is an interleaving of them
abbrev pub IsOfScripts : List (List Line) → List Item → Type 0
IsOfScripts [] items = ⊤
IsOfScripts (script ∷ scripts) items = IsInterleaving (script ∷ scripts) items

-- the next step of a caller's script, behind those that it has made in front of a place of the journal
abbrev pub next_step : List (List Line) → List Item → ℕ → ℕ → Option Step
next_step scripts items place caller =
    option_and_then (λ lines. slice_get (steps_of lines) (length (items_by caller (take place items)))) (slice_get scripts (caller - 1))

-- each item in front of a place is its caller's next step
abbrev pub InOrderUpTo : List (List Line) → List Item → ℕ → Type 0
InOrderUpTo scripts items place =
    (before : ℕ) (item : Item) → before < place → slice_get items before ≡ Some item → next_step scripts items before item.caller ≡ Some item.step

-- the item at a place is not the next step of this caller, whose it is
pub record IsMisplaced (scripts : List (List Line)) (items : List Item) (place caller : ℕ) : Type 0 where
  pub item : Item
  pub here : slice_get items place ≡ Some item
  pub caller_is : item.caller ≡ caller
  pub other : next_step scripts items place caller ≢ Some item.step

-- the journal ends at a place, this caller has steps left, and those before it have none
pub record IsShort (scripts : List (List Line)) (items : List Item) (place caller : ℕ) : Type 0 where
  pub at_end : place ≡ length items
  pub from_one : 1 ≤ caller
  pub of_script : caller ≤ length scripts
  pub left : IsSome (next_step scripts items place caller)
  pub first : (earlier : ℕ) → 1 ≤ earlier → earlier < caller → next_step scripts items place earlier ≡ None

-- The first line of the journal that is not its caller's next step, and that caller; or, where all are, the line behind the journal and the first
-- caller whose steps are missing.
pub record IsFirstDisorder (scripts : List (List Line)) (items : List Item) (line caller : ℕ) : Type 0 where
  pub place : ℕ
  pub before : InOrderUpTo scripts items place
  pub line_is : line ≡ line_at place
  pub here : IsMisplaced scripts items place caller ⊎ IsShort scripts items place caller

-- ---- the calls below

-- no caller has made fewer steps than its script has
abbrev pub IsNoneShort : List (List Line) → List ℕ → Type 0
IsNoneShort scripts made = (place : ℕ) (lines : List Line) → slice_get scripts place ≡ Some lines → length lines ≤ slice_index made place

-- a caller has made fewer, and those before it haven't
pub record IsFirstShort (scripts : List (List Line)) (made : List ℕ) (caller : ℕ) : Type 0 where
  pub from_one : 1 ≤ caller
  pub lines : List Line
  pub script : slice_get scripts (caller - 1) ≡ Some lines
  pub fewer : slice_index made (caller - 1) < length lines
  pub first : (place : ℕ) (earlier : List Line) → place < caller - 1 → slice_get scripts place ≡ Some earlier → length earlier ≤ slice_index made place

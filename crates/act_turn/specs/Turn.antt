-- The rule of the turn: what holds between any two steps.
-- The table has two words, the ticket that is drawn next (word 0) and the ticket that is served (word 1), and one
-- slot, for the value.
-- A view stands for members, each a pass's number with the list that this pass has seen: its own, and beside it those
-- of passes that ended and were joined to it. A spent view stands for none.
-- It has a stage (no ticket, a ticket, or a ticket whose turn has come), the number of turns that it has had and, in one
-- view alone, the count of the numbers that were given.
use Rattle.std.specs.Prelude.{ℕ, ◌+◌, ◌%◌, ◌^◌, ◌<◌, ◌≤◌, ◌≡◌, ◌≢◌, ◌==◌, ◌⊎◌, List, [], ◌∷◌, map, length, All, Contains, sum_by, count_by, is_some, nat_le, ◌&&◌, if◌then◌else◌, Bool, true, false, Option, Some, None}
use mathlib.Core.List.{IsPrefix}
use mathlib.Core.Option.{none, some}
use mathlib.Core.Option as maybe
use lib.ListN.{get_elem?}
use Rattle.atomic_table.specs.Table.{State, Me}
use Rattle.atomic_table.specs.Seated.{TableId}
use Rattle.act_turn.specs.Journal.{entries_of}
use Rattle.act_turn.specs.Standing.{Standing}
use Rattle.act_turn.specs.declared.view.View.{View}
use Rattle.act_turn.specs.declared.view.Member.{Member}
use Rattle.act_turn.specs.declared.view.Stage.{Stage}
use Rattle.act_turn.specs.declared.view.Stage.TheVariants.{Away, Waits, Has}

-- the ticket that a view has, if it has one
abbrev pub ticket_of : Stage → Option ℕ
ticket_of Away = None
ticket_of (Waits t) = Some t
ticket_of (Has t) = Some t

-- whether its turn has come
abbrev pub has_turn : Stage → Bool
has_turn Away = false
has_turn (Waits t) = false
has_turn (Has t) = true

abbrev pub tickets_of : List Stage → List (Option ℕ)
tickets_of stages = map ticket_of stages

-- the members that each view stands for
abbrev pub Rows : Type 0 → Type 0
Rows E = List (List (Member E))

-- the slots, each at home with what is in it, or out
abbrev pub Homes : Type 0 → Type 0
Homes K = List (maybe.Option (Option K))

module _ {E : Type 0} where
  abbrev pub member : ℕ → List E → Member E
  member k xs = record { number = k; seen = xs }

  abbrev pub number_of : List (Member E) → ℕ
  number_of [] = 0
  number_of (x ∷ xs) = x.number

  abbrev pub seen_of : List (Member E) → List E
  seen_of [] = []
  seen_of (x ∷ xs) = x.seen

  -- how often the number k is among them
  abbrev pub times : ℕ → List (Member E) → ℕ
  times k xs = count_by (λ x. x.number == k) xs

  abbrev pub stages_of : List (View E) → List Stage
  stages_of views = map (λ v. v.stage) views

  abbrev pub rows_of : List (View E) → Rows E
  rows_of views = map (λ v. v.members) views

  abbrev pub counts_of : List (View E) → List (Option ℕ)
  counts_of views = map (λ v. v.given) views

  -- P holds of each member that some view stands for
  abbrev pub Throughout : (Member E → Type 0) → Rows E → Type 0
  Throughout P rows = (j : ℕ) (xs : List (Member E)) → get_elem? rows j ≡ some xs → All P xs

  -- P holds of a member that some view stands for
  abbrev pub Somewhere : (Member E → Type 0) → Rows E → Type 0
  Somewhere P rows = (j : ℕ) × (xs : List (Member E)) × (x : Member E) × (get_elem? rows j ≡ some xs) × Contains xs x × P x

  -- 1. Each seen list is a prefix of the longest, which some pass has seen. So of any two the shorter is a prefix of
  -- the longer.
  pub record IsHistory (longest : List E) (rows : Rows E) : Type 0 where
    pub each : Throughout (λ x. IsPrefix x.seen longest) rows
    pub whole : Somewhere (λ x. x.seen ≡ longest) rows

-- 2. The tickets held are those from served up to, not including, drawn, each by one view. The words are these two
-- numbers, modulo 2 ^ 64.
pub record IsQueue (served drawn : ℕ) (words : List ℕ) (tickets : List (Option ℕ)) : Type 0 where
  pub words_are : words ≡ drawn % 2 ^ 64 ∷ served % 2 ^ 64 ∷ []
  pub within : (j t : ℕ) → get_elem? tickets j ≡ some (Some t) → (served ≤ t) × (t < drawn)
  pub each_held : (t : ℕ) → served ≤ t → t < drawn → (j : ℕ) × (get_elem? tickets j ≡ some (Some t))
  pub by_one : (i j t : ℕ) → get_elem? tickets i ≡ some (Some t) → get_elem? tickets j ≡ some (Some t) → i ≡ j
  pub as_many : served + count_by is_some tickets ≡ drawn

module _ {K : Type 0} where
  -- some view has its turn, and the slot is out
  abbrev pub IsOut : ℕ → Homes K → List Stage → Type 0
  IsOut served homes stages = (homes ≡ none ∷ []) × ((j : ℕ) × (get_elem? stages j ≡ some (Has served)))

  -- no view has its turn, and the slot is at home
  abbrev pub IsHome : Homes K → List Stage → Type 0
  IsHome homes stages = ((x : Option K) × (homes ≡ some x ∷ [])) × ((j t : ℕ) → get_elem? stages j ≡ some (Has t) → ⊥)

  -- 3. Only the view whose ticket is served can have its turn. The slot is out exactly while a view has its turn.
  pub record IsTurn (served : ℕ) (homes : Homes K) (stages : List Stage) : Type 0 where
    pub alone : (j t : ℕ) → get_elem? stages j ≡ some (Has t) → t ≡ served
    pub slot : IsOut served homes stages ⊎ IsHome homes stages

  -- 4. A slot at home holds a value, and it stands for the longest seen list.
  abbrev pub KeepsLongest : {E : Type 0} → (K → List E) → List E → Homes K → Type 0
  KeepsLongest journal longest homes = (x : Option K) → homes ≡ some x ∷ [] → (k : K) × (x ≡ Some k) × (journal k ≡ longest)

-- 5. A view that has its turn stands for one pass, which has seen the longest list. (Only such a view passes the turn on,
-- and that step alone makes the longest list longer.)
abbrev pub HasSeenLongest : {E : Type 0} → List E → List Stage → Rows E → Type 0
HasSeenLongest longest stages rows = (j t : ℕ) → get_elem? stages j ≡ some (Has t) → (k : ℕ) × (get_elem? rows j ≡ some (member k longest ∷ []))

-- the numbers from 1 to the count are given
abbrev pub is_given : ℕ → ℕ → Bool
is_given count k = nat_le 1 k && nat_le k count

-- one view has the count, and no other has one
abbrev pub IsCount : ℕ → List (Option ℕ) → Type 0
IsCount count counts = (j : ℕ) × (get_elem? counts j ≡ some (Some count)) × ((i : ℕ) (c : Option ℕ) → get_elem? counts i ≡ some c → i ≢ j → c ≡ None)

-- 6. The entries of the longest list whose author is the number of a pass, ended or not, are those in the list that this
-- pass has seen. Entries whose author is a number not yet given stand in every seen list.
-- Numbers are given from 1 on, one for each view that was made, and each to one pass for good. One view has the count of
-- them, which is below 2 ^ 32.
pub record KeepsAuthors {E : Type 0} (author : E → Option ℕ) (seats : ℕ) (longest : List E) (rows : Rows E) (counts : List (Option ℕ)) : Type 0 where
  pub own : Throughout (λ x. entries_of author x.number longest ≡ entries_of author x.number x.seen) rows
  pub strangers : (k : ℕ) → is_given (length rows) k ≡ false → Throughout (λ x. entries_of author k longest ≡ entries_of author k x.seen) rows
  pub once : (k : ℕ) → sum_by (times k) rows ≡ (if is_given (length rows) k then 1 else 0)
  pub in_all : sum_by length rows ≡ length rows
  pub count : IsCount (length rows) counts
  pub few : (length rows ≤ seats) × (seats < 2 ^ 32)

module _ {K E : Type 0} where
  -- the longest seen list, how many turns were passed on, how many tickets were drawn, and the six facts
  pub record Holds (journal : K → List E) (author : E → Option ℕ) (seats : ℕ) (s : State (Option K) (View E)) : Type 0 where
    pub longest : List E
    pub served : ℕ
    pub drawn : ℕ
    pub history : IsHistory longest (rows_of s.views)
    pub tickets : IsQueue served drawn s.words (tickets_of (stages_of s.views))
    pub turn : IsTurn served s.homes (stages_of s.views)
    pub home : KeepsLongest journal longest s.homes
    pub holder : HasSeenLongest longest (stages_of s.views) (rows_of s.views)
    pub authors : KeepsAuthors author seats longest (rows_of s.views) (counts_of s.views)

-- what a pass has in hand: the slot, whose value is out, while it has its turn
abbrev pub InHand : {K : Type 0} → Stage → List (ℕ × Option K) → Type 0
InHand Away carried = carried ≡ []
InHand (Waits t) carried = ⊥
InHand (Has t) carried = carried ≡ (0, None) ∷ []

-- the view stands for one pass
abbrev pub StandsForOne : {E : Type 0} → View E → Type 0
StandsForOne {E} v = (number : ℕ) × (seen : List E) × (v.members ≡ member number seen ∷ [])

-- between two calls a seat stands for one pass, and either has no ticket or has its turn
pub record IsPass {K E : Type 0} (me : Me (Option K) (View E)) : Type 0 where
  pub one : StandsForOne me.0
  pub hand : InHand me.0.stage me.1

module _ {E : Type 0} where
  -- the view of number 1, which has seen these entries
  abbrev pub opener : List E → View E
  opener xs = record { members = member 1 xs ∷ []; stage = Away; came = xs; turns = 0; given = Some 1 }

  -- what contracts see of a pass
  abbrev pub standing_of : TableId → View E → Standing E
  standing_of t v = record { turn = t; number = number_of v.members; seen = seen_of v.members; came = v.came; turns = v.turns; holds = has_turn v.stage }

  abbrev pub member_of : Standing E → Member E
  member_of pass = member pass.number pass.seen

-- the seat of number 1, before another number is given
abbrev pub IsOpener : {K E : Type 0} → Me (Option K) (View E) → Type 0
IsOpener {K} {E} me = (xs : List E) × (me ≡ (opener xs, []))

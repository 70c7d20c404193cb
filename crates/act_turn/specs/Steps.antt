-- What each step tells, and how a view is cut in two or two are joined.
use Rattle.std.specs.Prelude.{ℕ, ◌+◌, ◌%◌, ◌^◌, ◌≡◌, ◌≢◌, List, [], ◌∷◌, ◌++◌, Option, Some, None, unwrap_or}
use mathlib.Core.List.{IsPrefix}
use Rattle.atomic_table.specs.Table.{Me, Step}
use Rattle.act_turn.specs.Journal.{entries_of}
use Rattle.act_turn.specs.Turn.{member, number_of, seen_of}
use Rattle.act_turn.specs.declared.view.View.{View}
use Rattle.act_turn.specs.declared.view.Stage.TheVariants.{Away, Waits, Has}

-- a seat's view, and the slots that it has taken
abbrev Seated : Type 0 → Type 0 → Type 0
Seated K E = Me (Option K) (View E)

module _ {E : Type 0} where
  -- the view, which waits for the ticket t
  abbrev pub with_ticket : View E → ℕ → View E
  with_ticket v t = record v { stage = Waits t }

  -- the view, whose turn has come, and which has seen the list xs
  abbrev pub with_turn : View E → ℕ → List E → View E
  with_turn v t xs = record { members = member (number_of v.members) xs ∷ []; stage = Has t; came = xs; turns = v.turns + 1; given = v.given }

  -- the view, which has passed the turn on, and has seen the list xs
  abbrev pub without_turn : View E → List E → View E
  without_turn v xs = record { members = member (number_of v.members) xs ∷ []; stage = Away; came = v.came; turns = v.turns; given = v.given }

  -- the number that is given next by the view that has the count
  abbrev pub next_number : View E → ℕ
  next_number v = unwrap_or v.given 0 + 1

  -- the view, after it has given a number
  abbrev pub giver : View E → View E
  giver v = record v { given = Some (next_number v) }

  -- the view that the number was given to, with the list that the giver has seen
  abbrev pub newcomer : View E → View E
  newcomer v = record { members = member (next_number v) (seen_of v.members) ∷ []; stage = Away; came = seen_of v.members; turns = 0; given = None }

-- the count, where one of the two is one
abbrev pub either_count : Option ℕ → Option ℕ → Option ℕ
either_count None d = d
either_count (Some n) d = Some n

module _ {E : Type 0} where
  -- the view v, which also stands for what w stands for
  abbrev pub joint_view : View E → View E → View E
  joint_view v w = record { members = w.members ++ v.members; stage = v.stage; came = v.came; turns = v.turns; given = either_count v.given w.given }

-- the view that is left of w then
abbrev pub spent_view : {E : Type 0} → View E
spent_view = record { members = []; stage = Away; came = []; turns = 0; given = None }

module _ {K E : Type 0} where
  -- a ticket was drawn, of which the number found is the low part
  abbrev pub Draws : Step (Option K) → Seated K E → ℕ → Seated K E → Type 0
  Draws st m found n = (t : ℕ) × (found ≡ t % 2 ^ 64) × (n ≡ (with_ticket m.0 t, m.1))

  -- the seat waits for the ticket of which this is the low part
  abbrev pub WaitsFor : ℕ → Seated K E → Type 0
  WaitsFor low m = (t : ℕ) × (m.0.stage ≡ Waits t) × (low ≡ t % 2 ^ 64)

module _ {K E : Type 0} (journal : K → List E) where
  -- the slot was given back with the value k, whose journal the seat has seen, and its turn is over
  abbrev pub PassesOn : Step (Option K) → Seated K E → ℕ → Seated K E → Type 0
  PassesOn st m found n = (k : K) → m.1 ≡ (0, Some k) ∷ [] → n ≡ (without_turn m.0 (journal k), [])

module _ {K E : Type 0} (journal : K → List E) (author : E → Option ℕ) where
  -- The turn of the ticket t has come: the seat has taken the slot, and has seen the journal of the value k there.
  -- This journal begins with the list that it had seen, in which all entries of its number stand
  abbrev pub Comes : ℕ → Seated K E → Seated K E → Type 0
  Comes t m n = (k : K) × (n ≡ (with_turn m.0 t (journal k), (0, Some k) ∷ m.1)) × IsPrefix (seen_of m.0.members) (journal k)
      × (entries_of author (number_of m.0.members) (journal k) ≡ entries_of author (number_of m.0.members) (seen_of m.0.members))

  -- where the number found is that of the seat's ticket, its turn has come; else nothing changes
  abbrev pub Looks : Step (Option K) → Seated K E → ℕ → Seated K E → Type 0
  Looks st m found n = (t : ℕ) → m.0.stage ≡ Waits t → (found ≡ t % 2 ^ 64 → Comes t m n) × (found ≢ t % 2 ^ 64 → n ≡ m)

  -- the turn of the seat's ticket has come
  abbrev pub HasCome : Seated K E → Seated K E → Type 0
  HasCome m n = (t : ℕ) × (m.0.stage ≡ Waits t) × Comes t m n

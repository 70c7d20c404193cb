-- What asks name, and what they weigh.
use Rattle.std.proofs.Common.{◌≡◌, ℕ, zero, suc, ◌≤◌, true, cond, List, [], ◌∷◌, length, refl, sym, arith}
use Rattle.std.specs.List.{All, count_by, sum_by}
use Rattle.std.proofs.lemmas.List.Sums.{sum_by-cons}
use Rattle.act_model.specs.Journal.{is_append, is_known}
use Rattle.act_model.specs.Names.{NameLists}
use Rattle.act_model.specs.declared.journal.Asked.TheVariants.{All as EachOne, One}
use Rattle.act_model.specs.declared.journal.Line.{Line}
use Rattle.act_model.specs.declared.journal.Step.{Step}
use Rattle.act_model.specs.declared.journal.Step.TheVariants.{Append, Ask}
use Rattle.act_model.specs.declared.observed.Obs.TheVariants.{Event, Rate}
use Rattle.act_script.specs.Asks.{AsksBelow, is_below}
use Rattle.act_job.specs.Weight.{is_event}

-- a list of one
pub all-one : {X : Type 0} (P : X → Type 0) (x : X) → P x → All P (x ∷ [])
all-one P x here zero d within = here
all-one P x here (suc k) d within = absurd (omega arith)

-- a contract that is named is one of so many
known-below : (names : NameLists) (count : ℕ) (step : Step) → length names.contracts ≡ count → is_known names step ≡ true → is_below count step ≡ true
known-below names count (Append entry) all known = refl
known-below names count (Ask EachOne) all known = refl
known-below names count (Ask (One contract)) all known = rw (sym all) known

pub asks-below : (names : NameLists) (count : ℕ) (lines : List Line) → length names.contracts ≡ count → All (λ (line : Line). is_known names line.step ≡ true) lines → AsksBelow count lines
asks-below names count lines all known = λ k d within. known-below names count _ all (known k d within)

-- ---- events

-- an event entry is appended
event-appends : (line : Line) → cond (is_event line) 1 0 ≤ cond (is_append line.step) 1 0
event-appends line = by line.step refl
  where
    by : (step : Step) → line.step ≡ step → cond (is_event line) 1 0 ≤ cond (is_append line.step) 1 0
    by (Append (Rate code day value)) is = rw is (omega arith)
    by (Append (Event contract kind day value)) is = rw is (omega arith)
    by (Ask asked) is = rw is (omega arith)

events-of-one : (lines : List Line) → count_by is_event lines ≤ count_by (λ (line : Line). is_append line.step) lines
events-of-one [] = omega arith
events-of-one (line ∷ lines) =
    omega (arith, sum_by-cons (λ (l : Line). cond (is_event l) 1 0) line lines, sum_by-cons (λ (l : Line). cond (is_append l.step) 1 0) line lines, event-appends line, events-of-one lines)

-- there are no more events than entries
pub events-few : (lists : List (List Line)) → sum_by (count_by is_event) lists ≤ sum_by (count_by (λ (line : Line). is_append line.step)) lists
events-few [] = omega arith
events-few (lines ∷ lists) =
    omega (arith, sum_by-cons (count_by is_event) lines lists, sum_by-cons (count_by (λ (line : Line). is_append line.step)) lines lists, events-of-one lines, events-few lists)

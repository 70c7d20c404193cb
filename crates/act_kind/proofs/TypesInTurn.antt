-- The events of the types of events, type by type.
use Rattle.std.proofs.Common.{◌≡◌, ◌≢◌, ℕ, ◌+◌, ◌<◌, ◌≤◌, ◌⊎◌, inl, inr, List, [], ◌∷◌, ◌++◌, length, drop, get_or, Option, Some, None, Result, Ok, Err, refl, sym, ◌∙◌, ap, append_assoc, append-nil, arith}
use Rattle.std.proofs.lemmas.Bool.Decides.{nat_tests}
use Rattle.std.proofs.lemmas.List.{drop_all, drop_more}
use Rattle.std.proofs.lemmas.List.Elements.{All-tail}
use Rattle.std.specs.Global.{Vec}
use Rattle.act_kind.specs.Types.{AreTypes, IsCounted, first_fault, or_later}
use Rattle.act_model.specs.declared.event.Event.{Event}
use Rattle.act_model.specs.declared.run.PlanFault.{PlanFault}
use Rattle.act_model.specs.declared.run.PlanFault.TheVariants.{TooManyDates, DateRange, NoMemory}
use Rattle.act_model.specs.declared.terms.Common.{Common}
use Rattle.act_profile.specs.Outcomes.{map_ok, then_ok}
use Rattle.act_profile.specs.Planning.{Planned, events_by_type, type_events}
use Rattle.act_model.specs.Limits.{most_dates}

-- ---- what the definition says of one type more

events_by_type-nil : (common : Common) (n : ℕ) → events_by_type common n [] ≡ Ok []
unfolding events_by_type
events_by_type-nil common n = refl

events_by_type-none : (common : Common) (n : ℕ) (types : List (Option (List Planned))) → events_by_type common n (None ∷ types) ≡ Err DateRange
unfolding events_by_type
events_by_type-none common n types = refl

events_by_type-some : (common : Common) (n : ℕ) (dates : List Planned) (types : List (Option (List Planned))) →
    events_by_type common n (Some dates ∷ types)
    ≡ then_ok (λ events. map_ok (λ later. events ++ later) (events_by_type common (n + length dates) types)) (type_events common n dates)
unfolding events_by_type
events_by_type-some common n dates types = refl

-- ---- events behind earlier ones

-- later events, or a fault, behind earlier events
abbrev pub behind : List Event → Result (List Event) PlanFault → Result (List Event) PlanFault
behind events others = map_ok (λ later. events ++ later) others

behind-nil : (others : Result (List Event) PlanFault) → others ≡ behind [] others
behind-nil (Ok later) = refl
behind-nil (Err fault) = refl

behind-behind : (events more : List Event) (others : Result (List Event) PlanFault) → behind events (behind more others) ≡ behind (events ++ more) others
behind-behind events more (Ok later) = ap Ok (sym (append_assoc events more later))
behind-behind events more (Err fault) = refl

-- a type's events behind earlier ones, and then the later types'
behind-type : (common : Common) (n : ℕ) (events next : List Event) (types : List (Option (List Planned))) (type : Result (List Event) PlanFault) →
    behind events type ≡ Ok next →
    behind events (then_ok (λ more. behind more (events_by_type common n types)) type) ≡ behind next (events_by_type common n types)
behind-type common n events next types (Ok more) is =
    let same : events ++ more ≡ next = cc in
    behind-behind events more (events_by_type common n types) ∙ ap (λ all. behind all (events_by_type common n types)) same
behind-type common n events next types (Err fault) is = cc

type_added : (common : Common) (events next : List Event) (dates : List Planned) (types : List (Option (List Planned))) →
    behind events (type_events common (length events) dates) ≡ Ok next → length next ≡ length events + length dates →
    behind events (events_by_type common (length events) (Some dates ∷ types)) ≡ behind next (events_by_type common (length next) types)
type_added common events next dates types is count =
    ap (behind events) (events_by_type-some common (length events) dates types)
    ∙ behind-type common (length events + length dates) events next types (type_events common (length events) dates) is
    ∙ ap (λ n. behind next (events_by_type common n types)) (sym count)

-- ---- one answer more

-- the types of answers of which the first is a list of dates
record BeginsWith (dates : List Planned) (answers : List (Result (Vec Planned) PlanFault)) (types : List (Option (List Planned))) : Type 0 where
  others : List (Option (List Planned))
  is : types ≡ Some dates ∷ others
  are : AreTypes answers others

begins_with : (dates : Vec Planned) (answers : List (Result (Vec Planned) PlanFault)) (types : List (Option (List Planned))) →
    AreTypes (Ok dates ∷ answers) types → BeginsWith dates.items answers types
begins_with dates answers [] are = absurd are
begins_with dates answers (type ∷ others) are = record { others = others; is = ap (λ t. t ∷ others) are.0; are = are.1 refl }

-- after n events a type that has as many dates as a contract may have at most has too many
abbrev pub IsCountedAfter : ℕ → List (Result (Vec Planned) PlanFault) → List (Option (List Planned)) → Type 0
IsCountedAfter n answers types = (0 < n) ⊎ IsCounted answers types

counted_one : (n : ℕ) (answer : Result (Vec Planned) PlanFault) (answers : List (Result (Vec Planned) PlanFault)) (dates : List Planned) (types : List (Option (List Planned))) →
    IsCountedAfter n (answer ∷ answers) (Some dates ∷ types) → IsCountedAfter (n + length dates) answers types
counted_one n answer answers dates types (inl some) = inl (omega arith)
counted_one n answer answers [] types (inr (inl one)) = absurd one
counted_one n answer answers (date ∷ []) types (inr (inl one)) = inl (omega arith)
counted_one n answer answers (date ∷ other ∷ dates) types (inr (inl one)) = absurd one
counted_one n answer answers dates types (inr (inr none)) = inr (inr (All-tail (λ a. a ≢ Err TooManyDates) answer answers none))

-- with the answers from the kth on there are these types left, behind these events
pub record AreLeft (common : Common) (answers : List (Result (Vec Planned) PlanFault)) (types : List (Option (List Planned))) (events : List Event) (k : ℕ) : Type 0 where
  pub left : List (Option (List Planned))
  pub are : AreTypes (drop k answers) left
  pub is : events_by_type common 0 types ≡ behind events (events_by_type common (length events) left)
  pub counted : IsCounted answers types → IsCountedAfter (length events) (drop k answers) left

-- that holds for all types that the answers are of
pub record HasTaken (common : Common) (answers : List (Result (Vec Planned) PlanFault)) (events : List Event) (k : ℕ) : Type 0 where
  pub within : length events ≤ 4096
  pub faults : first_fault common 0 answers ≡ first_fault common (length events) (drop k answers)
  pub left : (types : List (Option (List Planned))) → AreTypes answers types → AreLeft common answers types events k

pub taken_none : (common : Common) (answers : List (Result (Vec Planned) PlanFault)) → HasTaken common answers [] 0
taken_none common answers =
    record {
      within = omega arith;
      faults = refl;
      left = λ types are. record { left = types; are = are; is = behind-nil (events_by_type common 0 types); counted = λ counted. inr counted };
    }

-- ---- the first fault

fault-none : (common : Common) (n : ℕ) → first_fault common n [] ≡ None
unfolding first_fault
fault-none common n = refl

fault-answer : (common : Common) (n : ℕ) (fault : PlanFault) (answers : List (Result (Vec Planned) PlanFault)) → first_fault common n (Err fault ∷ answers) ≡ Some fault
unfolding first_fault
fault-answer common n fault answers = refl

fault-type : (common : Common) (n : ℕ) (dates : Vec Planned) (answers : List (Result (Vec Planned) PlanFault)) →
    first_fault common n (Ok dates ∷ answers) ≡ or_later (type_events common n dates.items) (first_fault common (n + length dates.items) answers)
unfolding first_fault
fault-type common n dates answers = refl

fault-dates : (common : Common) (n : ℕ) (dates : Vec Planned) (fault : PlanFault) (answers : List (Result (Vec Planned) PlanFault)) → type_events common n dates.items ≡ Err fault → first_fault common n (Ok dates ∷ answers) ≡ Some fault
fault-dates common n dates fault answers is = fault-type common n dates answers ∙ ap (λ type. or_later type (first_fault common (n + length dates.items) answers)) is

-- dates that have events leave the fault to the later types
later-fault : (events next : List Event) (later : Option PlanFault) (type : Result (List Event) PlanFault) → behind events type ≡ Ok next → or_later type later ≡ later
later-fault events next later (Ok more) is = refl
later-fault events next later (Err fault) is = cc

fault-behind : (common : Common) (events next : List Event) (dates : Vec Planned) (answers : List (Result (Vec Planned) PlanFault)) → behind events (type_events common (length events) dates.items) ≡ Ok next →
    first_fault common (length events) (Ok dates ∷ answers) ≡ first_fault common (length events + length dates.items) answers
fault-behind common events next dates answers added =
    fault-type common (length events) dates answers ∙ later-fault events next (first_fault common (length events + length dates.items) answers) (type_events common (length events) dates.items) added

-- the answers from the kth on
left_of : (answers : List (Result (Vec Planned) PlanFault)) (k : ℕ) (answer : Result (Vec Planned) PlanFault) → k < length answers → get_or answers k answer ≡ answer →
    drop k answers ≡ answer ∷ drop (k + 1) answers
left_of answers k answer lt here = drop_more answers k answer lt ∙ ap (λ a. a ∷ drop (k + 1) answers) here

pub taken_one : (common : Common) (answers : List (Result (Vec Planned) PlanFault)) (events next : List Event) (k : ℕ) (dates : Vec Planned) →
    HasTaken common answers events k → k < length answers → get_or answers k (Ok dates) ≡ Ok dates →
    behind events (type_events common (length events) dates.items) ≡ Ok next → length next ≡ length events + length dates.items → length next ≤ 4096 →
    HasTaken common answers next (k + 1)
taken_one common answers events next k dates so_far lt here is count within =
    let whole = left_of answers k (Ok dates) lt here in
    record {
      within = within;
      faults = so_far.faults ∙ ap (first_fault common (length events)) whole ∙ fault-behind common events next dates (drop (k + 1) answers) is ∙ ap (λ n. first_fault common n (drop (k + 1) answers)) (sym count);
      left = λ types are.
          let old = so_far.left types are in
          let first = begins_with dates (drop (k + 1) answers) old.left (rw whole at old.are) in
          record {
            left = first.others;
            are = first.are;
            is = old.is ∙ ap (λ t. behind events (events_by_type common (length events) t)) first.is ∙ type_added common events next dates.items first.others is count;
            counted = λ counted. rw count (counted_one (length events) (Ok dates) (drop (k + 1) answers) dates.items first.others (rw (whole, first.is) at (old.counted counted)));
          };
    }

-- ---- the end, and faults

only_none : (types : List (Option (List Planned))) → AreTypes [] types → types ≡ []
only_none [] are = refl
only_none (type ∷ types) are = absurd are

pub taken_all : (common : Common) (answers : List (Result (Vec Planned) PlanFault)) (events : List Event) (k : ℕ) (types : List (Option (List Planned))) →
    HasTaken common answers events k → length answers ≤ k → AreTypes answers types → events_by_type common 0 types ≡ Ok events
taken_all common answers events k types so_far le are =
    let old = so_far.left types are in
    let none = only_none old.left (rw (drop_all k answers le) at old.are) in
    old.is ∙ ap (λ t. behind events (events_by_type common (length events) t)) none ∙ ap (behind events) (events_by_type-nil common (length events))
    ∙ ap Ok (append-nil events)

pub fault_all : (common : Common) (answers : List (Result (Vec Planned) PlanFault)) (events : List Event) (k : ℕ) → HasTaken common answers events k → length answers ≤ k → first_fault common 0 answers ≡ None
fault_all common answers events k so_far le = so_far.faults ∙ ap (first_fault common (length events)) (drop_all k answers le) ∙ fault-none common (length events)

pub fault_here : (common : Common) (answers : List (Result (Vec Planned) PlanFault)) (events : List Event) (k : ℕ) (fault : PlanFault) → HasTaken common answers events k → k < length answers → get_or answers k (Err fault) ≡ Err fault
    → first_fault common 0 answers ≡ Some fault
fault_here common answers events k fault so_far lt here = so_far.faults ∙ ap (first_fault common (length events)) (left_of answers k (Err fault) lt here) ∙ fault-answer common (length events) fault (drop (k + 1) answers)

pub fault_there : (common : Common) (answers : List (Result (Vec Planned) PlanFault)) (events : List Event) (k : ℕ) (dates : Vec Planned) (fault : PlanFault) → HasTaken common answers events k → k < length answers → get_or answers k (Ok dates) ≡ Ok dates
    → type_events common (length events) dates.items ≡ Err fault → first_fault common 0 answers ≡ Some fault
fault_there common answers events k dates fault so_far lt here is = so_far.faults ∙ ap (first_fault common (length events)) (left_of answers k (Ok dates) lt here) ∙ fault-dates common (length events) dates fault (drop (k + 1) answers) is

-- a type whose own events are a fault
pub taken_fault : (common : Common) (answers : List (Result (Vec Planned) PlanFault)) (events : List Event) (k : ℕ) (dates : Vec Planned) (fault : PlanFault) (types : List (Option (List Planned))) →
    HasTaken common answers events k → k < length answers → get_or answers k (Ok dates) ≡ Ok dates →
    type_events common (length events) dates.items ≡ Err fault → AreTypes answers types → events_by_type common 0 types ≡ Err fault
taken_fault common answers events k dates fault types so_far lt here is are =
    let old = so_far.left types are in
    let first = begins_with dates (drop (k + 1) answers) old.left (rw (left_of answers k (Ok dates) lt here) at old.are) in
    old.is ∙ ap (λ t. behind events (events_by_type common (length events) t)) first.is
    ∙ ap (behind events) (events_by_type-some common (length events) dates.items first.others
    ∙ ap (then_ok (λ more. behind more (events_by_type common (length events + length dates.items) first.others))) is)

-- an answer that is a fault
too_many : (common : Common) (n : ℕ) (dates : List Planned) → most_dates < n + length dates → type_events common n dates ≡ Err TooManyDates
too_many common n dates lt = grind (arith, nat_tests)

many_after : (n : ℕ) (answers : List (Result (Vec Planned) PlanFault)) (dates : List Planned) (types : List (Option (List Planned))) →
    most_dates ≤ length dates → IsCountedAfter n (Err TooManyDates ∷ answers) (Some dates ∷ types) → most_dates < n + length dates
many_after n answers dates types many (inl some) = omega arith
many_after n answers [] types many (inr (inl one)) = absurd one
many_after n answers (date ∷ []) types many (inr (inl one)) = absurd (omega arith)
many_after n answers (date ∷ other ∷ dates) types many (inr (inl one)) = absurd one
many_after n answers dates types many (inr (inr none)) = absurd (none 0 (Err TooManyDates) (omega arith) refl)

fault_first : (common : Common) (n : ℕ) (fault : PlanFault) (answers : List (Result (Vec Planned) PlanFault)) (types : List (Option (List Planned))) →
    AreTypes (Err fault ∷ answers) types → fault ≢ NoMemory → IsCountedAfter n (Err fault ∷ answers) types → events_by_type common n types ≡ Err fault
fault_first common n fault answers [] are other counted = absurd are
fault_first common n NoMemory answers (type ∷ types) are other counted = absurd (other refl)
fault_first common n DateRange answers (type ∷ types) are other counted = rw are.0 (events_by_type-none common n types)
fault_first common n TooManyDates answers (None ∷ types) are other counted = absurd are.0
fault_first common n TooManyDates answers (Some dates ∷ types) are other counted =
    let many : most_dates < n + length dates = many_after n answers dates types are.0 counted in
    events_by_type-some common n dates types
    ∙ ap (then_ok (λ more. behind more (events_by_type common (n + length dates) types))) (too_many common n dates many)

pub taken_answer : (common : Common) (answers : List (Result (Vec Planned) PlanFault)) (events : List Event) (k : ℕ) (fault : PlanFault) (types : List (Option (List Planned))) →
    HasTaken common answers events k → k < length answers → get_or answers k (Err fault) ≡ Err fault →
    AreTypes answers types → IsCounted answers types → fault ≢ NoMemory → events_by_type common 0 types ≡ Err fault
taken_answer common answers events k fault types so_far lt here are counted other =
    let old = so_far.left types are in
    let whole = left_of answers k (Err fault) lt here in
    old.is
    ∙ ap (behind events) (fault_first common (length events) fault (drop (k + 1) answers) old.left (rw whole at old.are) other (rw whole at (old.counted counted)))

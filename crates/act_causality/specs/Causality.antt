-- Causality: what is dated before a change stays. Two books that agree before a day as to what a contract reads give it runs that agree before
-- that day. This profile's own.
use Rattle.std.specs.Prelude.{◌≡◌, IsTrue, ℕ, zero, suc, ◌⊎◌, Bool, true, false, ℤ, int_lt, ◌≤ℤ◌, List, [], ◌∷◌, map, Option, Some, None, Result, Ok, Err, ◌≤◌, take}
use Rattle.std.specs.List.{AllByRecursion, AllZip, filter, slice_get}
use Rattle.std.specs.Option.{unwrap_or}
use Rattle.act_date.specs.Civil.{last_day}
use Rattle.act_model.specs.Observed.{observation}
use Rattle.act_model.specs.Run.{EventPlan, Stream}
use Rattle.act_model.specs.declared.event.Event.{Event}
use Rattle.act_model.specs.declared.event.Source.{Source}
use Rattle.act_model.specs.declared.event.Source.TheVariants.{Observed}
use Rattle.act_model.specs.declared.observed.Obs.{Obs}
use Rattle.act_model.specs.declared.run.Row.{Row}
use Rattle.act_model.specs.declared.run.Stop.{Stop}
use Rattle.act_model.specs.declared.state.State.{State}
use Rattle.act_model.specs.declared.terms.Common.{Common}
use Rattle.act_model.specs.declared.terms.Covered.{Covered}
use Rattle.act_model.specs.declared.terms.Kind.{Kind}
use Rattle.act_model.specs.declared.terms.Kind.TheVariants as kind
use Rattle.act_model.specs.declared.terms.Loan.{Loan}
use Rattle.act_model.specs.declared.terms.RateReset.{RateReset}
use Rattle.act_model.specs.declared.terms.Terms.{Terms}
use Rattle.act_profile.specs.Contract.{observed_as}
use Rattle.act_profile.specs.Events.{events_of}
use Rattle.act_profile.specs.Kept.{kept_of}
use Rattle.act_profile.specs.Legs.{PlacedRow, child, limited_rows}
use Rattle.act_profile.specs.Plan.{plan_of}
use Rattle.act_profile.specs.Reads.{codes_of, codes_read, contracts_read, day_of_entry, is_in, touches, cut_of}
use Rattle.act_profile.specs.Run.{Contracts, close_of, deepest, run_of}
use Rattle.act_profile.specs.Steps.{currency_of, step_of}
use Rattle.act_profile.specs.Stops.{comes_before, rows_before, stop_day}

-- ---- books that agree

-- an entry is dated before a day
abbrev pub is_entry_before : ℤ → Obs → Bool
is_entry_before day entry = int_lt (day_of_entry entry) day

-- the entries of a book that touch a cone and are dated before a day, in the order of the book
abbrev pub touching_before : ℤ → List ℕ → List ℕ → List Obs → List Obs
touching_before day codes contracts entries = filter (is_entry_before day) (filter (touches codes contracts) entries)

-- two books agree before a day as to a cone that reads these codes and the events of these contracts: the entries that touch it and are dated
-- before that day are the same, in the same order
pub record AgreeBefore (day : ℤ) (codes contracts : List ℕ) (one other : List Obs) : Type 0 where
  pub entries : touching_before day codes contracts one ≡ touching_before day codes contracts other

-- ---- runs that agree

-- a run stops before a day
abbrev pub stops_before : ℤ → Stream → Bool
stops_before day run = comes_before (stop_day run.close) (Some day)

-- two runs agree before a day: they have the same rows dated before it, and where one of them stops before it, both are the same
pub record RunsAgreeBefore (day : ℤ) (one other : Stream) : Type 0 where
  pub rows : rows_before day one ≡ rows_before day other
  pub whole : IsTrue (stops_before day one) ⊎ IsTrue (stops_before day other) → one ≡ other

-- ---- events that agree

-- an event is dated before a day
abbrev pub is_event_before : ℤ → Event → Bool
is_event_before day event = int_lt event.day day

-- a source without its place among the observations of the contract
abbrev pub unplaced_source : Source → Source
unplaced_source (Observed place) = Observed zero
unplaced_source other = other

-- an event without the place of its observation
abbrev pub unplaced : Event → Event
unplaced event = record event { source = unplaced_source event.source }

-- the events dated before a day, but for the places of their observations
abbrev pub events_before : ℤ → List Event → List Event
events_before day events = map unplaced (filter (is_event_before day) events)

-- two lists of events agree before a day: those dated before it are the same but for the places of their observations
pub record EventsAgreeBefore (day : ℤ) (one other : List Event) : Type 0 where
  pub events : events_before day one ≡ events_before day other

-- ---- steps

-- a step stops on the day of its event
pub record StopsOnTheDay (step : State → Event → Result (ℤ × State) Stop) : Type 0 where
  pub day : (s : State) (event : Event) (stop : Stop) → step s event ≡ Err stop → stop_day (close_of stop) ≡ Some event.day

-- ---- children's runs that agree

-- no element of a list is early
abbrev pub Late : {A : Type 0} → (A → Bool) → List A → Type 0
Late is_early [] = Unit {0}
Late is_early (x ∷ xs) = (is_early x ≡ false) × Late is_early xs

-- behind an element that isn't early none is: what is early stands first
abbrev pub IsCut : {A : Type 0} → (A → Bool) → List A → Type 0
IsCut is_early [] = Unit {0}
IsCut is_early (x ∷ xs) = (is_early x ≡ false → Late is_early xs) × IsCut is_early xs

-- a row is dated before a day
abbrev pub is_row_before : ℤ → Row → Bool
is_row_before day row = int_lt row.day day

-- two runs agree before a day, and in each what is dated before it stands first
pub record ChildAgrees (day : ℤ) (one other : Stream) : Type 0 where
  pub runs : RunsAgreeBefore day one other
  pub cut : IsCut (is_row_before day) one.rows
  pub cut2 : IsCut (is_row_before day) other.rows

-- the runs of children agree so, one by one
abbrev pub ChildrenAgree : ℤ → List Stream → List Stream → Type 0
ChildrenAgree day children others = AllZip (ChildAgrees day) children others

-- rows stand beside rows of the same days, as far as both lists go
abbrev pub PairDays : List PlacedRow → List PlacedRow → Type 0
PairDays [] ys = Unit {0}
PairDays (x ∷ xs) [] = Unit {0}
PairDays (x ∷ xs) (y ∷ ys) = (x.1.day ≡ y.1.day) × PairDays xs ys

-- the interest rows of the children of a cap and floor stand beside one another by their days
abbrev pub ArePaired : Common → Kind → List Stream → Type 0
ArePaired common (kind.CAPFL capfl) children = PairDays (limited_rows common capfl (child children 0)) (limited_rows common capfl (child children 1))
ArePaired common other children = Unit {0}

-- ---- the two facts

-- the codes that a contract reads are in a list
abbrev pub HasCodes : List ℕ → List ℕ → Type 0
HasCodes codes own = (code : ℕ) → is_in own code ≡ true → is_in codes code ≡ true

-- the covered contracts of a guarantee are among those whose events are read
abbrev pub CoveredIn : List ℕ → Kind → Type 0
CoveredIn contracts (kind.CEG ceg) = AllByRecursion (λ (c : Covered). is_in contracts c.contract ≡ true) ceg.covered
CoveredIn contracts (kind.CEC cec) = AllByRecursion (λ (c : Covered). is_in contracts c.contract ≡ true) cec.guarantee.covered
CoveredIn contracts other = Unit {0}

-- a contract with its plan, over two books that agree before a day as to the codes and the contracts that it reads, and over children's runs that
-- agree before it
pub record IsOverAgreeing (day : ℤ) (codes contracts : List ℕ) (terms : Terms) (plan : EventPlan) (one other : List Obs) (runs others : List Stream) : Type 0 where
  pub planned : plan_of terms ≡ Ok plan
  pub reads : HasCodes codes (codes_of terms)
  pub observes : is_in contracts (observed_as terms.common) ≡ true
  pub covers : CoveredIn contracts terms.kind
  pub until : day ≤ℤ last_day
  pub books : AgreeBefore day codes contracts one other
  pub children : ChildrenAgree day runs others
  pub pairs : ArePaired terms.common terms.kind runs
  pub pairs2 : ArePaired terms.common terms.kind others

-- the first fact: the events of the contract that are dated before the day are the same but for the places of their observations
abbrev pub EventsStay : Type 0
EventsStay = (day : ℤ) (codes contracts : List ℕ) (terms : Terms) (plan : EventPlan) (one other : List Obs) (runs others : List Stream) →
    IsOverAgreeing day codes contracts terms plan one other runs others →
    EventsAgreeBefore day (events_of terms plan one runs) (events_of terms plan other others)

-- the step of an event dated before a day, and the currency of its payoff, are the same, also from another place among the observations
pub record StepStays (day : ℤ) (terms : Terms) (plan : EventPlan) (one other : List Obs) (runs others : List Stream) (event : Event) : Type 0 where
  pub step : (s : State) (same : Event) → IsTrue (is_event_before day event) → unplaced event ≡ unplaced same → step_of terms plan one runs s event ≡ step_of terms plan other others s same
  pub paid_in : (same : Event) → IsTrue (is_event_before day event) → unplaced event ≡ unplaced same → currency_of terms runs event ≡ currency_of terms others same

-- the second fact: so it is for each of the contract's events
abbrev pub StepsStay : Type 0
StepsStay = (day : ℤ) (codes contracts : List ℕ) (terms : Terms) (plan : EventPlan) (one other : List Obs) (runs others : List Stream) →
    IsOverAgreeing day codes contracts terms plan one other runs others →
    AllByRecursion (StepStays day terms plan one other runs others) (events_of terms plan one runs)

-- and a step stops on the day of its event
abbrev pub StopsStay : Type 0
StopsStay = (terms : Terms) (plan : EventPlan) (entries : List Obs) (runs : List Stream) → StopsOnTheDay (step_of terms plan entries runs)

-- ---- what a step reads

-- two books have the same values of these codes on a day
abbrev pub HaveSameValues : ℤ → List ℕ → List Obs → List Obs → Type 0
HaveSameValues day codes one other = (code : ℕ) → is_in codes code ≡ true → observation one code day ≡ observation other code day

-- the step of an event is the same over two books that have the same values, on the event's day, of the codes that the contract reads
abbrev pub StepReadsItsDay : Terms → EventPlan → Event → Type 0
StepReadsItsDay terms plan event = (one other : List Obs) (runs : List Stream) →
    HaveSameValues event.day (codes_of terms) one other →
    (s : State) → step_of terms plan one runs s event ≡ step_of terms plan other runs s event

-- the third fact: so it is for each event that the contract has, over any book and any runs of children
abbrev pub StepsReadTheirDay : Type 0
StepsReadTheirDay = (terms : Terms) (plan : EventPlan) (entries : List Obs) (children : List Stream) →
    plan_of terms ≡ Ok plan →
    AllByRecursion (StepReadsItsDay terms plan) (events_of terms plan entries children)

-- the step of an event is the same over children's runs that agree before a later day
abbrev pub StepReadsRowsUntilItsDay : Terms → EventPlan → List Obs → List Stream → Event → Type 0
StepReadsRowsUntilItsDay terms plan entries runs event = (day : ℤ) (others : List Stream) →
    IsTrue (is_event_before day event) → ChildrenAgree day runs others →
    (s : State) → step_of terms plan entries runs s event ≡ step_of terms plan entries others s event

-- so it is for each of the contract's events: of children's runs its step reads only what is dated not after it, rows and stops
abbrev pub StepsReadRowsUntilTheirDay : Type 0
StepsReadRowsUntilTheirDay = (terms : Terms) (plan : EventPlan) (entries : List Obs) (runs : List Stream) →
    plan_of terms ≡ Ok plan → ArePaired terms.common terms.kind runs →
    AllByRecursion (StepReadsRowsUntilItsDay terms plan entries runs) (events_of terms plan entries runs)

-- ---- portfolios

-- a covered contract of a guarantee is the child at its place, and its events are that child's
pub record IsCoveredChild (contracts : Contracts) (children : List ℕ) (covered : Covered) : Type 0 where
  pub number : ℕ
  pub terms : Terms
  pub child : slice_get children covered.child ≡ Some number
  pub here : slice_get contracts.terms number ≡ Some terms
  pub events : covered.contract ≡ observed_as terms.common

-- how a rate is reset, with another cap and floor
abbrev pub reset_within : Option ℤ → Option ℤ → RateReset → RateReset
reset_within cap floor reset = record reset { life_cap = cap; life_floor = floor }

abbrev pub loan_within : Option ℤ → Option ℤ → Loan → Loan
loan_within cap floor loan = record loan { rate_reset = reset_within cap floor loan.rate_reset }

-- a loan or a plain swap with another cap and floor
abbrev pub kind_within : Option ℤ → Option ℤ → Kind → Option Kind
kind_within cap floor (kind.PAM pam) = Some (kind.PAM (record pam { loan = loan_within cap floor pam.loan }))
kind_within cap floor (kind.LAM lam) = Some (kind.LAM (record lam { loan = loan_within cap floor lam.loan }))
kind_within cap floor (kind.NAM nam) = Some (kind.NAM (record nam { loan = loan_within cap floor nam.loan }))
kind_within cap floor (kind.ANN ann) = Some (kind.ANN (record ann { loan = loan_within cap floor ann.loan }))
kind_within cap floor (kind.SWPPV swppv) = Some (kind.SWPPV (record swppv { rate_reset = reset_within cap floor swppv.rate_reset }))
kind_within cap floor other = None

-- the shadow of a contract: its terms with another cap and floor, under another number, with the same observed events
pub record IsShadow (shadow underlying : Terms) : Type 0 where
  pub number : ℕ
  pub events_of : Option ℕ
  pub cap : Option ℤ
  pub floor : Option ℤ
  pub common : shadow.common ≡ record underlying.common { contract = number; underlying = events_of }
  pub observed : observed_as shadow.common ≡ observed_as underlying.common
  pub kind : kind_within cap floor underlying.kind ≡ Some shadow.kind

-- the children of a cap or floor are a contract and its shadow
pub record HasShadow (contracts : Contracts) (children : List ℕ) : Type 0 where
  pub underlying : ℕ
  pub shadow : ℕ
  pub terms : Terms
  pub own : Terms
  pub both : children ≡ underlying ∷ shadow ∷ []
  pub here : slice_get contracts.terms underlying ≡ Some terms
  pub there : slice_get contracts.terms shadow ≡ Some own
  pub is : IsShadow own terms

-- what the terms of a contract hold of other contracts is so
abbrev pub KnowsChildren : Contracts → List ℕ → Kind → Type 0
KnowsChildren contracts children (kind.CAPFL capfl) = HasShadow contracts children
KnowsChildren contracts children (kind.CEG ceg) = AllByRecursion (IsCoveredChild contracts children) ceg.covered
KnowsChildren contracts children (kind.CEC cec) = AllByRecursion (IsCoveredChild contracts children) cec.guarantee.covered
KnowsChildren contracts children other = Unit {0}

-- the children of a contract
abbrev pub children_at : Contracts → ℕ → List ℕ
children_at contracts c = unwrap_or (slice_get contracts.children c) []

-- the contracts of a portfolio, as it makes them: each has the plan of its terms, and what terms hold of other contracts is so
pub record IsLinked (contracts : Contracts) : Type 0 where
  pub plans : (c : ℕ) (terms : Terms) (plan : EventPlan) → slice_get contracts.terms c ≡ Some terms → slice_get contracts.plans c ≡ Some plan → plan_of terms ≡ Ok plan
  pub children : (c : ℕ) (terms : Terms) → slice_get contracts.terms c ≡ Some terms → KnowsChildren contracts (children_at contracts c) terms.kind

-- each chain of references from a contract has at most so many contracts
abbrev pub IsWithinDepth : ℕ → Contracts → ℕ → Type 0
IsWithinDepth zero contracts c = ⊥
IsWithinDepth (suc n) contracts c = AllByRecursion (IsWithinDepth n contracts) (children_at contracts c)

-- ---- the law

-- where two books agree before a day as to the cone of a contract, its runs over them agree before that day
abbrev pub Causality : Type 0
Causality = (contracts : Contracts) (c : ℕ) (day : ℤ) (one other : List Obs) →
    IsLinked contracts → IsWithinDepth deepest contracts c → day ≤ℤ last_day →
    AgreeBefore day (codes_read contracts c) (contracts_read contracts c) one other →
    RunsAgreeBefore day (run_of contracts one c) (run_of contracts other c)

-- where two books have the same entries that touch the cone of a contract, it has the same run
abbrev pub UnreadDoesNotMatter : Type 0
UnreadDoesNotMatter = (contracts : Contracts) (c : ℕ) (one other : List Obs) →
    IsLinked contracts → IsWithinDepth deepest contracts c →
    filter (touches (codes_read contracts c) (contracts_read contracts c)) one ≡ filter (touches (codes_read contracts c) (contracts_read contracts c)) other →
    run_of contracts one c ≡ run_of contracts other c

-- what is kept of a contract's run under the cut between two versions of a book is the same of the run at either, where the cut is a day that can be
abbrev pub KeptRowsStay : Type 0
KeptRowsStay = (contracts : Contracts) (c : ℕ) (entries : List Obs) (u w : ℕ) →
    IsLinked contracts → IsWithinDepth deepest contracts c → u ≤ w → ((day : ℤ) → cut_of contracts c entries u w ≡ Some day → day ≤ℤ last_day) →
    kept_of (run_of contracts (take u entries) c) (cut_of contracts c entries u w) ≡ kept_of (run_of contracts (take w entries) c) (cut_of contracts c entries u w)

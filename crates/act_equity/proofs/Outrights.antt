-- The plan of a foreign exchange outright.
use Rattle.std.proofs.Common.{◌≡◌, ◌≢◌, ℕ, ◌+◌, ◌≤◌, ℤ, nat_lt, false, List, [], ◌∷◌, ◌++◌, length, Option, Some, None, Result, Ok, Err, refl, sym, ap, ◌∙◌, arith}
use Rattle.std.proofs.lemmas.Bool.Decides.{nat_tests}
use Rattle.std.proofs.lemmas.List.Elements.{All-cons, All-nil}
use Rattle.std.specs.Global.{Vec}
use Rattle.std.specs.Option.{ok_or}
use Rattle.std.specs.Prelude.{IfErr}
use Rattle.act_model.specs.Limits.{most_dates}
use Rattle.act_model.specs.Run.{EventPlan}
use Rattle.act_model.specs.declared.choice.DeliverySettlement.{DeliverySettlement}
use Rattle.act_model.specs.declared.choice.DeliverySettlement.TheVariants as delivery
use Rattle.act_model.specs.declared.event.EventType.{EventType}
use Rattle.act_equity.specs.Outright.{outright_dates}
use Rattle.act_kind.specs.Types.{AreTypes, IsAnswer, IsNoneTooMany}
use Rattle.act_model.specs.declared.event.Event.{Event}
use Rattle.act_model.specs.declared.event.EventType.TheVariants.{PRD, TD}
use Rattle.act_model.specs.declared.run.PlanFault.{PlanFault}
use Rattle.act_model.specs.declared.run.PlanFault.TheVariants.{DateRange, NoMemory, TooManyDates}
use Rattle.act_model.specs.declared.terms.Common.{Common}
use Rattle.act_model.specs.declared.terms.Fxout.{Fxout}
use Rattle.act_profile.specs.Equity.{exchange_dates, outright_plan}
use Rattle.act_profile.specs.Order.{in_order}
use Rattle.act_profile.specs.Outcomes.{map_ok, then_ok}
use Rattle.act_profile.specs.Plan.{trade_plan}
use Rattle.act_profile.specs.Planning.{Planned, events_by_type, planned_events, unshifted_where_given}
use Rattle.act_profile.specs.Trade.{plain_plan}

-- ---- the plan by its events

pub plan_of_events : (common : Common) (fxout : Fxout) (events sorted : List Event) → events_by_type common 0 (outright_dates common fxout) ≡ Ok events → sorted ≡ in_order events →
    outright_plan common fxout ≡ Ok (plain_plan sorted)
unfolding outright_plan
plan_of_events common fxout events sorted planned order = ap (map_ok (λ es. plain_plan (in_order es))) planned ∙ rw order refl

pub no_plan : (common : Common) (fxout : Fxout) (fault : PlanFault) → events_by_type common 0 (outright_dates common fxout) ≡ Err fault → outright_plan common fxout ≡ Err fault
unfolding outright_plan
no_plan common fxout fault planned = ap (map_ok (λ es. plain_plan (in_order es))) planned

-- ---- the dates of the types of events

pub all_types : (common : Common) (fxout : Fxout) (prd td exchange : Result (Vec Planned) PlanFault) →
    IsAnswer prd (Some (unshifted_where_given PRD common.purchase_date)) →
    IsAnswer td (Some (unshifted_where_given TD common.termination_date)) →
    IsAnswer exchange (Some (exchange_dates fxout.maturity_date fxout.delivery_settlement)) →
    AreTypes (prd ∷ td ∷ exchange ∷ []) (outright_dates common fxout)
all_types common fxout prd td exchange a b c = (a, λ _. (b, λ _. (c, λ _. tt)))

-- want of memory is no fault of too many dates
not_too_many : (answer : Result (Vec Planned) PlanFault) → IfErr answer (λ fault. fault ≡ NoMemory) → answer ≢ Err TooManyDates
not_too_many (Ok dates) none is = cc
not_too_many (Err fault) none is = let memory : fault ≡ NoMemory = none in cc

pub none_too_many : (prd td exchange : Result (Vec Planned) PlanFault) → IfErr prd (λ fault. fault ≡ NoMemory) → IfErr td (λ fault. fault ≡ NoMemory) → IfErr exchange (λ fault. fault ≡ NoMemory) →
    IsNoneTooMany (prd ∷ td ∷ exchange ∷ [])
none_too_many prd td exchange a b c =
    let other = λ (answer : Result (Vec Planned) PlanFault). answer ≢ Err TooManyDates in
    All-cons other prd (td ∷ exchange ∷ []) (not_too_many prd a) (All-cons other td (exchange ∷ []) (not_too_many td b) (All-cons other exchange [] (not_too_many exchange c) (All-nil other)))

-- ---- it never has too many events

-- where the later types don't have too many, neither have these dates with them
few_with : (events : Option (List Event)) (later : Result (List Event) PlanFault) → later ≢ Err TooManyDates →
    then_ok (λ es. map_ok (λ more. es ++ more) later) (ok_or events DateRange) ≢ Err TooManyDates
few_with None later few is = cc
few_with (Some es) (Ok more) few is = cc
few_with (Some es) (Err fault) few is = few is

few_dates : (common : Common) (n : ℕ) (dates : List Planned) (types : List (Option (List Planned))) → n + length dates ≤ 4096 →
    events_by_type common (n + length dates) types ≢ Err TooManyDates → events_by_type common n (Some dates ∷ types) ≢ Err TooManyDates
unfolding events_by_type
few_dates common n dates types within few is =
    let low : nat_lt most_dates (n + length dates) ≡ false = grind (arith, nat_tests) in
    few_with (planned_events common dates) (events_by_type common (n + length dates) types) few (rw low at is)

one_at_most : (kind : EventType) (date : Option ℤ) → length (unshifted_where_given kind date) ≤ 1
one_at_most kind None = omega arith
one_at_most kind (Some date) = omega arith

two_at_most : (maturity : ℤ) (delivery : DeliverySettlement) → length (exchange_dates maturity delivery) ≤ 2
two_at_most maturity delivery.D = omega arith
two_at_most maturity delivery.S = omega arith

none_left : (common : Common) (n : ℕ) → events_by_type common n [] ≢ Err TooManyDates
unfolding events_by_type
none_left common n is = cc

few_events : (common : Common) (fxout : Fxout) → events_by_type common 0 (outright_dates common fxout) ≢ Err TooManyDates
few_events common fxout =
    let prd = unshifted_where_given PRD common.purchase_date in
    let td = unshifted_where_given TD common.termination_date in
    let exchange = exchange_dates fxout.maturity_date fxout.delivery_settlement in
    let one = one_at_most PRD common.purchase_date in
    let other = one_at_most TD common.termination_date in
    let two = two_at_most fxout.maturity_date fxout.delivery_settlement in
    few_dates common 0 prd (Some td ∷ Some exchange ∷ []) (omega arith)
    (few_dates common (0 + length prd) td (Some exchange ∷ []) (omega arith)
    (few_dates common (0 + length prd + length td) exchange [] (omega arith) (none_left common (0 + length prd + length td + length exchange))))

few_in_order : (events : Result (List Event) PlanFault) → events ≢ Err TooManyDates → map_ok (λ es. plain_plan (in_order es)) events ≢ Err TooManyDates
few_in_order (Ok es) few is = cc
few_in_order (Err fault) few is = few (let same : fault ≡ TooManyDates = cc in ap Err same)

never_too_many : (common : Common) (fxout : Fxout) → outright_plan common fxout ≢ Err TooManyDates
unfolding outright_plan
never_too_many common fxout = few_in_order (events_by_type common 0 (outright_dates common fxout)) (few_events common fxout)

-- nor has an answer that is its plan, or that of a stock
pub few_of_outright : (common : Common) (fxout : Fxout) (answer : Result EventPlan PlanFault) → (answer ≢ Err NoMemory → answer ≡ outright_plan common fxout) → answer ≢ Err TooManyDates
few_of_outright common fxout answer are is = never_too_many common fxout (sym (are (λ memory. cc)) ∙ is)

pub few_of_stock : (common : Common) (answer : Result EventPlan PlanFault) → (answer ≢ Err NoMemory → answer ≡ trade_plan common) → answer ≢ Err TooManyDates
few_of_stock common answer are is = let never : trade_plan common ≡ Err TooManyDates = sym (are (λ memory. cc)) ∙ is in cc

-- What the plans of contracts have: a scaling only where something is scaled.
use Rattle.std.proofs.Common.{◌≡◌, ◌||◌, true, false, ℤ, int_lt, List, [], ◌∷◌, Option, Some, None, Result, Ok, Err, inl, inr, refl}
use Rattle.std.specs.List.{AllByRecursion}
use Rattle.std.specs.Prelude.{option_map}
use Rattle.std.proofs.lemmas.Bool.{cases_Bool}
use Rattle.act_model.specs.Kind.{loan_of}
use Rattle.act_model.specs.Run.{EventPlan}
use Rattle.act_model.specs.declared.choice.ContractType.{ContractType}
use Rattle.act_model.specs.declared.choice.ContractType.TheVariants as contract
use Rattle.act_model.specs.declared.event.Event.{Event}
use Rattle.act_model.specs.declared.event.EventType.{EventType}
use Rattle.act_model.specs.declared.event.EventType.TheVariants as type
use Rattle.act_model.specs.declared.run.PlanFault.{PlanFault}
use Rattle.act_model.specs.declared.terms.Common.{Common}
use Rattle.act_model.specs.declared.terms.Kind.{Kind}
use Rattle.act_model.specs.declared.terms.Kind.TheVariants as kind
use Rattle.act_model.specs.declared.terms.Lam.{Lam}
use Rattle.act_model.specs.declared.terms.Loan.{Loan}
use Rattle.act_profile.specs.Dates.{maturity_of_lam}
use Rattle.act_profile.specs.LoanPlan.{base_dates, capitalization_dates, fee_dates, fixings_by, interest_payment_dates, is_earlier, loan_dates, loan_plan, redemption_dates, reset_dates, resets_on, scaling_dates, with_first_fixing, with_first_given, with_redemptions}
use Rattle.act_profile.specs.LoanTerms.{LoanTerms}
use Rattle.act_profile.specs.Order.{in_order, is_type}
use Rattle.act_profile.specs.Outcomes.{map_ok}
use Rattle.act_profile.specs.Plan.{loan_terms_plan, plan_by}
use Rattle.act_profile.specs.Planning.{Planned, events_by_type, shifting, unshifted_where_given}
use Rattle.act_causality.proofs.EventFacts.{TypesAre, all-by_type, all-in_order, all-insert, all-true}
use Rattle.act_causality.proofs.Lines.{IsScaled, ScaledLoan, ann_terms, lam_terms, nam_terms, pam_terms}

module _ (Q : EventType → Type 0) where
  abbrev AllAre : List Planned → Type 0
  AllAre dates = AllByRecursion (λ (p : Planned). Q p.kind) dates

  all-shifting : (what : EventType) (dates : List ℤ) → Q what → AllAre (shifting what dates)
  all-shifting what [] is = tt
  all-shifting what (d ∷ dates) is = (is, all-shifting what dates is)

  all-unshifted : (what : EventType) (date : Option ℤ) → Q what → AllAre (unshifted_where_given what date)
  all-unshifted what None is = tt
  all-unshifted what (Some date) is = (is, tt)

  all-first_given : (status : ℤ) (dates : List ℤ) → Q type.RRF → Q type.RR → AllAre (with_first_given status dates)
  unfolding with_first_given
  all-first_given status [] fixed reset = tt
  all-first_given status (d ∷ dates) fixed reset =
      elim (cases_Bool (int_lt status d)) [
        | inl later ↦ rw later (fixed, all-shifting type.RR dates reset)
        | inr earlier ↦ rw earlier (reset, all-first_given status dates fixed reset)
      ]

  all-resets : (status : ℤ) (rate : Option ℤ) (dates : List ℤ) → Q type.RRF → Q type.RR → AllAre (resets_on status rate dates)
  all-resets status None dates fixed reset = all-shifting type.RR dates reset
  all-resets status (Some rate) dates fixed reset = all-first_given status dates fixed reset

  all-fixing : (exchange : ℤ) (payment : Option ℤ) (fixings : List Planned) → Q type.PRF → AllAre fixings → AllAre (with_first_fixing exchange payment fixings)
  all-fixing exchange None fixings is all = all-insert (λ (p : Planned). Q p.kind) is_earlier _ fixings is all
  all-fixing exchange (Some payment) fixings is all = all

  module _ (common : Common) where
    -- one type's dates before those of the others
    types-one : (dates : Option (List Planned)) (types : List (Option (List Planned))) → ((some : List Planned) → dates ≡ Some some → AllAre some) → TypesAre Q common types → TypesAre Q common (dates ∷ types)
    types-one None types is rest = rest
    types-one (Some dates) types is rest = (is dates refl, rest)

    made : {X : Type 0} (f : X → List Planned) (o : Option X) → ((x : X) → AllAre (f x)) → (some : List Planned) → option_map f o ≡ Some some → AllAre some
    made f None all some is = absurd (cc)
    made f (Some x) all some is = let same : f x ≡ some = cc in rw (← same) (all x)

    types-made : {X : Type 0} (f : X → List Planned) (o : Option X) (types : List (Option (List Planned))) → ((x : X) → AllAre (f x)) → TypesAre Q common types → TypesAre Q common (option_map f o ∷ types)
    types-made f o types all rest = types-one (option_map f o) types (made f o all) rest

    types-fixings : (l : LoanTerms) (what : ContractType) (types : List (Option (List Planned))) → Q type.PRF → TypesAre Q common types → TypesAre Q common (fixings_by l what ∷ types)
    types-fixings l contract.ANN types is rest =
        types-made (λ dates. with_first_fixing l.loan.initial_exchange_date l.payment (shifting type.PRF dates)) (reset_dates l) types (λ dates. all-fixing l.loan.initial_exchange_date l.payment (shifting type.PRF dates) is (all-shifting type.PRF dates is)) rest
    types-fixings l other types is rest = (tt, rest)

    types-scalings : (l : LoanTerms) (types : List (Option (List Planned))) → (IsScaled l.loan → Q type.SC) → TypesAre Q common types → TypesAre Q common (option_map (shifting type.SC) (scaling_dates l) ∷ types)
    types-scalings l types scaled rest =
        elim (cases_Bool (l.loan.scaling.scaling_effect.interest || l.loan.scaling.scaling_effect.notional)) [
          | inl is ↦ types-made (shifting type.SC) (scaling_dates l) types (λ dates. all-shifting type.SC dates (scaled is)) rest
          | inr fails ↦ rw fails (tt, rest)
        ]

    -- the dates of a loan's plan are of other types than SC, or something is scaled
    loan-types : (l : LoanTerms) → ((what : EventType) → is_type what type.SC ≡ false → Q what) → (IsScaled l.loan → Q type.SC) → TypesAre Q common (loan_dates l)
    loan-types l plain scaled = (
      (plain type.IED refl, tt),
      (
        all-unshifted type.PRD l.common.purchase_date (plain type.PRD refl),
        (
          all-unshifted type.TD l.common.termination_date (plain type.TD refl),
          types-made (shifting type.PR) (redemption_dates l) _ (λ dates. all-shifting type.PR dates (plain type.PR refl)) (
              types-made (shifting type.IPCI) (capitalization_dates l) _ (λ dates. all-shifting type.IPCI dates (plain type.IPCI refl)) (
              types-made (shifting type.IP) (interest_payment_dates l) _ (λ dates. all-shifting type.IP dates (plain type.IP refl)) (
              types-made (shifting type.FP) (fee_dates l) _ (λ dates. all-shifting type.FP dates (plain type.FP refl)) (
              types-made (resets_on l.common.status_date l.loan.rate_reset.next_reset_rate) (reset_dates l) _ (λ dates. all-resets l.common.status_date l.loan.rate_reset.next_reset_rate dates (plain type.RRF refl) (plain type.RR refl)) (
              types-fixings l l.type _ (plain type.PRF refl) (
              types-made (shifting type.IPCB) (base_dates l) _ (λ dates. all-shifting type.IPCB dates (plain type.IPCB refl)) (
              types-scalings l _ scaled ((plain type.MD refl, tt), tt)))))))),
        ),
      ),
    )

-- ---- plans

-- what is true of types of events but for a scaling, and of a scaling where something is scaled
record IsOfTypes (Q : EventType → Type 0) (loan : Option Loan) : Type 0 where
  pub plain : (what : EventType) → is_type what type.SC ≡ false → Q what
  pub scaled : ScaledLoan loan → Q type.SC

loan-plan : (Q : EventType → Type 0) (l : LoanTerms) (planned : Result (List Event) PlanFault) (plan : EventPlan) → map_ok (λ events. with_redemptions l (in_order events)) planned ≡ Ok plan →
    ((events : List Event) → planned ≡ Ok events → AllByRecursion (λ (e : Event). Q e.kind) events) → AllByRecursion (λ (e : Event). Q e.kind) plan.events
loan-plan Q l (Err fault) plan is all = absurd (cc)
loan-plan Q l (Ok events) plan is all =
    let same : with_redemptions l (in_order events) ≡ plan = cc in
    rw (← same) (all-in_order (λ (e : Event). Q e.kind) events (all events refl))

loan_plan-all : (Q : EventType → Type 0) (l : LoanTerms) (plan : EventPlan) → loan_plan l ≡ Ok plan → IsOfTypes Q (Some l.loan) → AllByRecursion (λ (e : Event). Q e.kind) plan.events
unfolding loan_plan
loan_plan-all Q l plan is of =
    loan-plan Q l (events_by_type l.common 0 (loan_dates l)) plan is (λ events now. all-by_type Q l.common 0 (loan_dates l) events now (loan-types Q l.common l of.plain of.scaled))

lam-plan : (Q : EventType → Type 0) (common : Common) (lam : Lam) (maturity : Result ℤ PlanFault) (plan : EventPlan) → loan_terms_plan (Some (map_ok (λ (d : ℤ). lam_terms common lam d) maturity)) ≡ Ok plan → IsOfTypes Q (Some lam.loan) →
    AllByRecursion (λ (e : Event). Q e.kind) plan.events
lam-plan Q common lam (Err fault) plan is of = absurd (cc)
lam-plan Q common lam (Ok d) plan is of = loan_plan-all Q (lam_terms common lam d) plan is of

-- a scaling is planned only where something is scaled
abbrev pub ScalesWhereScaled : Kind → Event → Type 0
ScalesWhereScaled contract e = is_type e.kind type.SC ≡ true → ScaledLoan (loan_of contract)

of_scaled : (loan : Option Loan) → IsOfTypes (λ what. is_type what type.SC ≡ true → ScaledLoan loan) loan
of_scaled loan = record { plain = λ what other is. absurd (cc); scaled = λ is now. is }

pub plan-scales : (common : Common) (contract : Kind) (plan : EventPlan) → plan_by common contract ≡ Ok plan → AllByRecursion (ScalesWhereScaled contract) plan.events
plan-scales common (kind.PAM pam) plan is = loan_plan-all _ (pam_terms common pam) plan is (of_scaled (Some pam.loan))
plan-scales common (kind.LAM lam) plan is = lam-plan _ common lam (maturity_of_lam lam) plan is (of_scaled (Some lam.loan))
plan-scales common (kind.NAM nam) plan is = loan_plan-all _ (nam_terms common nam) plan is (of_scaled (Some nam.loan))
plan-scales common (kind.ANN ann) plan is = loan_plan-all _ (ann_terms common ann) plan is (of_scaled (Some ann.loan))
plan-scales common other plan is = all-true (ScalesWhereScaled other) (λ e scaling. tt) plan.events

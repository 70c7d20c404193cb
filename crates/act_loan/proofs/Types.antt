-- The answers of the types of a loan's events, all together.
use Rattle.std.proofs.Common.{◌≡◌, [], ◌∷◌, Some, None, Result, option_map}
use Rattle.std.specs.Global.{Vec}
use Rattle.act_kind.specs.Types.{AreTypes, IsAnswer}
use Rattle.act_model.specs.declared.choice.ContractType.TheVariants as type
use Rattle.act_model.specs.declared.event.EventType.TheVariants.{IED, PR, FP, PRD, TD, IP, IPCI, IPCB, SC, MD}
use Rattle.act_model.specs.declared.run.PlanFault.{PlanFault}
use Rattle.act_profile.specs.LoanPlan.{base_dates, capitalization_dates, fee_dates, fixings_by, interest_payment_dates, loan_dates, redemption_dates, reset_dates, resets_on, scaling_dates}
use Rattle.act_profile.specs.LoanTerms.{LoanTerms}
use Rattle.act_profile.specs.Planning.{Planned, shifting, unshifted, unshifted_where_given}

-- an answer for each type
pub all_types : (l : LoanTerms) (ied prd td pr ipci ip fp rr prf ipcb sc md : Result (Vec Planned) PlanFault) →
    IsAnswer ied (Some (unshifted IED l.loan.initial_exchange_date)) →
    IsAnswer prd (Some (unshifted_where_given PRD l.common.purchase_date)) →
    IsAnswer td (Some (unshifted_where_given TD l.common.termination_date)) →
    IsAnswer pr (option_map (shifting PR) (redemption_dates l)) →
    IsAnswer ipci (option_map (shifting IPCI) (capitalization_dates l)) →
    IsAnswer ip (option_map (shifting IP) (interest_payment_dates l)) →
    IsAnswer fp (option_map (shifting FP) (fee_dates l)) →
    IsAnswer rr (option_map (resets_on l.common.status_date l.loan.rate_reset.next_reset_rate) (reset_dates l)) →
    IsAnswer prf (fixings_by l l.type) →
    IsAnswer ipcb (option_map (shifting IPCB) (base_dates l)) →
    IsAnswer sc (option_map (shifting SC) (scaling_dates l)) →
    IsAnswer md (Some (shifting MD (l.maturity ∷ []))) →
    AreTypes (ied ∷ prd ∷ td ∷ pr ∷ ipci ∷ ip ∷ fp ∷ rr ∷ prf ∷ ipcb ∷ sc ∷ md ∷ []) (loan_dates l)
all_types l ied prd td pr ipci ip fp rr prf ipcb sc md a b c d e f g h i j k m =
    (a, λ _. (b, λ _. (c, λ _. (d, λ _. (e, λ _. (f, λ _. (g, λ _. (h, λ _. (i, λ _. (j, λ _. (k, λ _. (m, λ _. tt))))))))))))

-- a PAM has no redemptions, payments to be fixed and bases to be fixed
pub no_redemptions : (l : LoanTerms) (answer : Result (Vec Planned) PlanFault) → l.redemption ≡ None → IsAnswer answer (Some []) → IsAnswer answer (option_map (shifting PR) (redemption_dates l))
no_redemptions l answer none is = rw none is

pub no_fixings : (l : LoanTerms) (answer : Result (Vec Planned) PlanFault) → l.type ≡ type.PAM → IsAnswer answer (Some []) → IsAnswer answer (fixings_by l l.type)
no_fixings l answer pam is = rw pam is

pub no_bases : (l : LoanTerms) (answer : Result (Vec Planned) PlanFault) → l.redemption ≡ None → IsAnswer answer (Some []) → IsAnswer answer (option_map (shifting IPCB) (base_dates l))
no_bases l answer none is = rw none is

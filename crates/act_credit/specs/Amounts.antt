-- What clauses on the amounts of a credit event say: an amount, undefined where it is out of range, or a stop at the first read that finds
-- nothing.
use Rattle.std.specs.Prelude.{ℕ, ℤ, int_le, List, map, Option, Some, None, option_and_then, Result, Ok}
use Rattle.std.specs.List.{filter, fold, last_or}
use Rattle.std.specs.Option.{ok_or}
use Rattle.act_model.specs.Run.{Stream}
use Rattle.act_model.specs.Terms.{Collateral, Guarantee}
use Rattle.act_model.specs.declared.choice.GuaranteedExposure.{GuaranteedExposure}
use Rattle.act_model.specs.declared.event.EventType.TheVariants.{XD}
use Rattle.act_model.specs.declared.observed.Obs.{Obs}
use Rattle.act_model.specs.declared.run.Row.{Row}
use Rattle.act_model.specs.declared.run.Stop.{Stop}
use Rattle.act_model.specs.declared.run.Stop.TheVariants.{Overflow}
use Rattle.act_model.specs.declared.state.State.{State}
use Rattle.act_model.specs.declared.terms.Covered.{Covered}
use Rattle.act_model.specs.declared.terms.Kind.{Kind}
use Rattle.act_model.specs.declared.terms.Kind.TheVariants.{CEG, CEC}
use Rattle.act_profile.specs.Credit.{after_credit_event, covered_part, exposure_by, market_codes, reading_all, state_on, sum_of_magnitudes, total_exposure}
use Rattle.act_profile.specs.Formula.{lesser, magnitude, plus}
use Rattle.act_profile.specs.Outcomes.{then_ok}

-- the state after the last of those rows that are dated not after a day
abbrev pub last_state : List Row → ℤ → Option State
last_state rows day = last_or None (map (λ row. row.state) (filter (λ row. int_le row.day day) rows))

-- the exposure to a covered contract by its state on a day, where it has one
abbrev pub exposure_on : GuaranteedExposure → List Stream → ℤ → Covered → Option ℤ
exposure_on exposure children day covered = option_and_then (exposure_by exposure covered day) (state_on children day covered)

-- a sum, and added to it the magnitudes of the values that are read of codes
abbrev pub sum_read : List Obs → ℤ → Option ℤ → List ℕ → Result (Option ℤ) Stop
sum_read entries day sum codes = reading_all entries day codes (λ values. Ok (fold plus sum (map (λ v. magnitude (Some v)) values)))

-- the exposure to all covered contracts, with what it reads
abbrev pub exposure_read : List Obs → Guarantee → List Stream → ℤ → Result (Option ℤ) Stop
exposure_read entries guarantee children day =
    reading_all entries day (market_codes guarantee) (λ values. Ok (total_exposure guarantee.guaranteed_exposure guarantee children day values))

-- the part of it that is covered, which a guarantee owes
abbrev pub guarantee_amount : List Obs → Guarantee → List Stream → ℤ → Result (Option ℤ) Stop
guarantee_amount entries guarantee children day =
    reading_all entries day (market_codes guarantee) (λ values. Ok (covered_part guarantee children day values))

-- the same with collateral: at most what that is worth
abbrev pub collateral_amount : List Obs → Collateral → List Stream → ℤ → Result (Option ℤ) Stop
collateral_amount entries collateral children day =
    reading_all entries day (market_codes collateral.guarantee) (λ values.
    reading_all entries day collateral.covering (λ worth.
    Ok (lesser (covered_part collateral.guarantee children day values) (sum_of_magnitudes worth))))

-- the amount by kind
abbrev pub credit_amount : List Obs → List Stream → ℤ → Kind → Result (Option ℤ) Stop
credit_amount entries children day (CEG ceg) = guarantee_amount entries ceg children day
credit_amount entries children day (CEC cec) = collateral_amount entries cec children day
credit_amount entries children day other = Ok None

-- the step of a credit event by its amount
abbrev pub step_by_amount : ℤ → State → Result (Option ℤ) Stop → Result (ℤ × State) Stop
step_by_amount day s amount = then_ok (λ xa. ok_or (after_credit_event day xa s) (Overflow day XD)) amount

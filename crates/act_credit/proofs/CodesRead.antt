-- The reads of a credit event, one code at a time, and the step that follows from them.
use Rattle.std.proofs.Common.{◌≡◌, ◌≢◌, ℕ, ◌+◌, ◌<◌, ◌≤◌, ℤ, pos, true, List, [], ◌∷◌, length, get_or, drop, map, Option, Some, None, Result, Ok, Err, refl, sym, ap, ◌∙◌, add-one}
use Rattle.std.proofs.Math.Seq.{drop-cons}
use Rattle.std.proofs.lemmas.List.{drop_all}
use Rattle.std.specs.List.{cons_option, filter_map}
use Rattle.std.specs.Option.{ok_or}
use Rattle.act_credit.specs.Amounts.{collateral_amount, credit_amount, exposure_on, exposure_read, guarantee_amount, step_by_amount, sum_read}
use Rattle.act_credit.specs.Kinds.{is_guarantee}
use Rattle.act_model.specs.Kind.{type_of}
use Rattle.act_model.specs.Observed.{observation}
use Rattle.act_model.specs.Run.{EventPlan, Stream}
use Rattle.act_model.specs.Terms.{Collateral, Guarantee}
use Rattle.act_model.specs.declared.choice.GuaranteedExposure.{GuaranteedExposure}
use Rattle.act_model.specs.declared.choice.GuaranteedExposure.TheVariants.{NO, NI, MV}
use Rattle.act_model.specs.declared.event.Event.{Event}
use Rattle.act_model.specs.declared.event.EventType.{EventType}
use Rattle.act_model.specs.declared.event.EventType.TheVariants.{XD}
use Rattle.act_model.specs.declared.observed.Obs.{Obs}
use Rattle.act_model.specs.declared.run.Stop.{Stop}
use Rattle.act_model.specs.declared.run.Stop.TheVariants.{Overflow}
use Rattle.act_model.specs.declared.state.State.{State}
use Rattle.act_model.specs.declared.terms.Covered.{Covered}
use Rattle.act_model.specs.declared.terms.Kind.{Kind}
use Rattle.act_model.specs.declared.terms.Kind.TheVariants as kind
use Rattle.act_model.specs.declared.terms.Terms.{Terms}
use Rattle.act_profile.specs.Credit.{after_credit_event, collateral_step, covered_part, guarantee_step, market_codes, market_codes_by, reading_all, sum_of, sum_of_magnitudes, total_exposure}
use Rattle.act_profile.specs.Formula.{lesser, magnitude, plus, times}
use Rattle.act_profile.specs.Outcomes.{then_ok}
use Rattle.act_profile.specs.Step.{with_value}
use Rattle.act_profile.specs.Steps.{guarantee_step_by, step_of}

-- ---- what follows from reads

with_value_then : {A B : Type 0} (f : A → Result B Stop) (code : ℕ) (day : ℤ) (value : Option ℤ) (g : ℤ → Result A Stop) (h : ℤ → Result B Stop) →
    ((v : ℤ) → h v ≡ then_ok f (g v)) → with_value code day value h ≡ then_ok f (with_value code day value g)
with_value_then f code day None g h same = refl
with_value_then f code day (Some v) g h same = same v

-- what follows from what follows from the values that are read
reading_then : {A B : Type 0} (f : A → Result B Stop) (entries : List Obs) (day : ℤ) (codes : List ℕ) (g : List ℤ → Result A Stop) (h : List ℤ → Result B Stop) →
    ((values : List ℤ) → h values ≡ then_ok f (g values)) → reading_all entries day codes h ≡ then_ok f (reading_all entries day codes g)
unfolding reading_all
reading_then f entries day [] g h same = same []
reading_then f entries day (code ∷ codes) g h same =
    with_value_then f code day (observation entries code day) (λ v. reading_all entries day codes (λ values. g (v ∷ values))) (λ v. reading_all entries day codes (λ values. h (v ∷ values)))
    (λ v. reading_then f entries day codes (λ values. g (v ∷ values)) (λ values. h (v ∷ values)) (λ values. same (v ∷ values)))

-- ---- amounts by what is read before

pub covered_by_exposure : (entries : List Obs) (guarantee : Guarantee) (children : List Stream) (day : ℤ) →
    guarantee_amount entries guarantee children day ≡ then_ok (λ exposure. Ok (times (Some guarantee.coverage_of_credit_enhancement) exposure)) (exposure_read entries guarantee children day)
covered_by_exposure entries guarantee children day =
    reading_then (λ exposure. Ok (times (Some guarantee.coverage_of_credit_enhancement) exposure)) entries day (market_codes guarantee)
    (λ values. Ok (total_exposure guarantee.guaranteed_exposure guarantee children day values)) (λ values. Ok (covered_part guarantee children day values)) (λ values. refl)

pub collateral_by_parts : (entries : List Obs) (collateral : Collateral) (children : List Stream) (day : ℤ) →
    collateral_amount entries collateral children day
    ≡ then_ok (λ covered. then_ok (λ worth. Ok (lesser covered worth)) (sum_read entries day (Some (pos 0)) collateral.covering)) (guarantee_amount entries collateral.guarantee children day)
collateral_by_parts entries collateral children day =
    reading_then (λ covered. then_ok (λ worth. Ok (lesser covered worth)) (sum_read entries day (Some (pos 0)) collateral.covering)) entries day (market_codes collateral.guarantee)
    (λ values. Ok (covered_part collateral.guarantee children day values))
    (λ values. reading_all entries day collateral.covering (λ worth. Ok (lesser (covered_part collateral.guarantee children day values) (sum_of_magnitudes worth))))
    (λ values. reading_then (λ worth. Ok (lesser (covered_part collateral.guarantee children day values) worth)) entries day collateral.covering
    (λ worth. Ok (sum_of_magnitudes worth)) (λ worth. Ok (lesser (covered_part collateral.guarantee children day values) (sum_of_magnitudes worth))) (λ worth. refl))

-- ---- the step by its amount

step_of_guarantee : (entries : List Obs) (guarantee : Guarantee) (children : List Stream) (day : ℤ) (s : State) →
    guarantee_step entries guarantee children day s ≡ step_by_amount day s (guarantee_amount entries guarantee children day)
step_of_guarantee entries guarantee children day s =
    reading_then (λ xa. ok_or (after_credit_event day xa s) (Overflow day XD)) entries day (market_codes guarantee)
    (λ values. Ok (covered_part guarantee children day values)) (λ values. ok_or (after_credit_event day (covered_part guarantee children day values) s) (Overflow day XD)) (λ values. refl)

step_of_collateral : (entries : List Obs) (collateral : Collateral) (children : List Stream) (day : ℤ) (s : State) →
    collateral_step entries collateral children day s ≡ step_by_amount day s (collateral_amount entries collateral children day)
step_of_collateral entries collateral children day s =
    let follows : Option ℤ → Result (ℤ × State) Stop = λ xa. ok_or (after_credit_event day xa s) (Overflow day XD) in
    let part : List ℤ → Option ℤ = λ values. covered_part collateral.guarantee children day values in
    reading_then follows entries day (market_codes collateral.guarantee)
    (λ values. reading_all entries day collateral.covering (λ worth. Ok (lesser (part values) (sum_of_magnitudes worth))))
    (λ values. reading_all entries day collateral.covering (λ worth. follows (lesser (part values) (sum_of_magnitudes worth))))
    (λ values. reading_then follows entries day collateral.covering
    (λ worth. Ok (lesser (part values) (sum_of_magnitudes worth))) (λ worth. follows (lesser (part values) (sum_of_magnitudes worth))) (λ worth. refl))

credit_step_by : (event_type : EventType) (terms : Terms) (plan : EventPlan) (entries : List Obs) (children : List Stream) (s : State) (event : Event) (contract : Kind) →
    event_type ≡ XD → is_guarantee (type_of contract) ≡ true →
    step_by_amount event.day s (credit_amount entries children event.day contract) ≡ guarantee_step_by event_type terms plan entries children s event contract
credit_step_by XD terms plan entries children s event (kind.CEG ceg) same is = sym (step_of_guarantee entries ceg children event.day s)
credit_step_by XD terms plan entries children s event (kind.CEC cec) same is = sym (step_of_collateral entries cec children event.day s)
credit_step_by XD terms plan entries children s event other same is = absurd (cc)
credit_step_by event_type terms plan entries children s event contract same is = absurd (cc)

-- the step of a credit event
pub step_of_credit : (terms : Terms) (plan : EventPlan) (entries : List Obs) (children : List Stream) (s : State) (event : Event) → event.kind ≡ XD → is_guarantee (type_of terms.kind) ≡ true →
    step_by_amount event.day s (credit_amount entries children event.day terms.kind) ≡ step_of terms plan entries children s event
unfolding step_of
step_of_credit terms plan entries children s event same is = credit_step_by event.kind terms plan entries children s event terms.kind same is

-- ---- the sum of what is read, one code at a time

sum_by_value : (entries : List Obs) (day : ℤ) (sum next : Option ℤ) (code : ℕ) (value : Option ℤ) (codes : List ℕ) →
    Ok next ≡ with_value code day value (λ v. Ok (plus sum (magnitude (Some v)))) →
    with_value code day value (λ v. sum_read entries day (plus sum (magnitude (Some v))) codes) ≡ sum_read entries day next codes
sum_by_value entries day sum next code None codes is = absurd (cc)
sum_by_value entries day sum next code (Some v) codes is = let same : next ≡ plus sum (magnitude (Some v)) = cc in rw same refl

-- once a code has been read, the others are added to the next sum
pub sum_next : (entries : List Obs) (day : ℤ) (sum next : Option ℤ) (code : Option ℕ) (codes : List ℕ) →
    Ok next ≡ sum_read entries day sum (cons_option code []) → sum_read entries day sum (cons_option code codes) ≡ sum_read entries day next codes
unfolding reading_all
sum_next entries day sum next None codes is = let same : next ≡ sum = cc in rw same refl
sum_next entries day sum next (Some code) codes is = sum_by_value entries day sum next code (observation entries code day) codes is

stop_by_value : (entries : List Obs) (day : ℤ) (sum : Option ℤ) (stop : Stop) (code : ℕ) (value : Option ℤ) (codes : List ℕ) →
    Err stop ≡ with_value code day value (λ v. let r : Result (Option ℤ) Stop = Ok (plus sum (magnitude (Some v))) in r) →
    with_value code day value (λ v. sum_read entries day (plus sum (magnitude (Some v))) codes) ≡ Err stop
stop_by_value entries day sum stop code None codes is = sym is
stop_by_value entries day sum stop code (Some v) codes is = absurd (cc)

-- where a read finds nothing, the sum is that stop
pub sum_stop : (entries : List Obs) (day : ℤ) (sum : Option ℤ) (stop : Stop) (code : Option ℕ) (codes : List ℕ) →
    Err stop ≡ sum_read entries day sum (cons_option code []) → sum_read entries day sum (cons_option code codes) ≡ Err stop
unfolding reading_all
sum_stop entries day sum stop None codes is = absurd (cc)
sum_stop entries day sum stop (Some code) codes is = stop_by_value entries day sum stop code (observation entries code day) codes is

-- ---- turns of the loops

-- the sum of the values of some items' codes from a place on
abbrev pub sum_from : {X : Type 0} → (X → Option ℕ) → List Obs → ℤ → Option ℤ → List X → ℕ → Result (Option ℤ) Stop
sum_from code_of entries day sum items i = sum_read entries day sum (filter_map code_of (drop i items))

-- the items from a place on begin with the one there
pub item_at : {X : Type 0} (items : List X) (i : ℕ) (item : X) → i < length items → item ≡ get_or items i item → drop i items ≡ item ∷ drop (i + 1) items
item_at items i item lt is = rw (add-one, drop-cons items i item lt, ← is) refl

pub code_at : (codes : List ℕ) (i : ℕ) → i < length codes → drop i codes ≡ get_or codes i 0 ∷ drop (i + 1) codes
code_at codes i lt = rw (add-one, drop-cons codes i 0 lt) refl

module _ {X : Type 0} (code_of : X → Option ℕ) (entries : List Obs) (day : ℤ) (sum : Option ℤ) (items : List X) (i : ℕ) (item : X) (here : drop i items ≡ item ∷ drop (i + 1) items) where
  pub sum_turn : (next : Option ℤ) → Ok next ≡ sum_read entries day sum (cons_option (code_of item) []) → sum_from code_of entries day sum items i ≡ sum_from code_of entries day next items (i + 1)
  sum_turn next read =
      ap (λ xs. sum_read entries day sum (filter_map code_of xs)) here ∙ sum_next entries day sum next (code_of item) (filter_map code_of (drop (i + 1) items)) read

  pub sum_ends : (stop : Stop) → Err stop ≡ sum_read entries day sum (cons_option (code_of item) []) → sum_from code_of entries day sum items i ≡ Err stop
  sum_ends stop read =
      ap (λ xs. sum_read entries day sum (filter_map code_of xs)) here ∙ sum_stop entries day sum stop (code_of item) (filter_map code_of (drop (i + 1) items)) read

pub sum_done : {X : Type 0} (code_of : X → Option ℕ) (entries : List Obs) (day : ℤ) (sum : Option ℤ) (items : List X) (i : ℕ) → length items ≤ i → sum_from code_of entries day sum items i ≡ Ok sum
unfolding reading_all
sum_done code_of entries day sum items i past = rw (drop_all i items past) refl

-- the codes themselves
pub codes_alone : (codes : List ℕ) → filter_map Some codes ≡ codes
codes_alone [] = refl
codes_alone (code ∷ codes) = ap (λ rest. code ∷ rest) (codes_alone codes)

-- ---- exposures that read no code

states_by : (entries : List Obs) (guarantee : Guarantee) (children : List Stream) (day : ℤ) (exposure : GuaranteedExposure) → exposure ≢ MV →
    reading_all entries day (market_codes_by exposure guarantee) (λ values. Ok (total_exposure exposure guarantee children day values)) ≡ Ok (sum_of (map (exposure_on exposure children day) guarantee.covered))
unfolding reading_all
states_by entries guarantee children day NO states = refl
states_by entries guarantee children day NI states = refl
states_by entries guarantee children day MV states = absurd (states refl)

-- the sum of the exposures by states
pub states_alone : (entries : List Obs) (guarantee : Guarantee) (children : List Stream) (day : ℤ) (exposure : GuaranteedExposure) (covered : List Covered) (sum : Option ℤ) →
    exposure ≢ MV → guarantee.guaranteed_exposure ≡ exposure → covered ≡ guarantee.covered → sum ≡ sum_of (map (exposure_on exposure children day) covered) →
    Ok sum ≡ exposure_read entries guarantee children day
states_alone entries guarantee children day exposure covered sum states is same by =
    ap Ok (by ∙ ap (λ contracts. sum_of (map (exposure_on exposure children day) contracts)) same) ∙ sym (states_by entries guarantee children day exposure states)
    ∙ ap (λ e. reading_all entries day (market_codes_by e guarantee) (λ values. Ok (total_exposure e guarantee children day values))) (sym is)

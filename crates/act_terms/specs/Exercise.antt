-- The terms of options and futures: OPTNS and FUTUR. ACTUS data dictionary; what is required and the defaults are this profile's own. The
-- underlying is none of these terms: it is bound to what the contract's structure refers to, once all contracts are read, and is 0 before.
use Rattle.std.specs.Prelude.{Bool, true, false, codes, unwrap_or, Result, Ok}
use Rattle.act_date.specs.declared.cycle.Cycle.{Cycle}
use Rattle.act_date.specs.declared.cycle.Stub.TheVariants.{Short}
use Rattle.act_date.specs.declared.cycle.Unit.TheVariants as unit
use Rattle.act_json.specs.Fields.{decimal_field, period_field}
use Rattle.act_model.specs.declared.choice.ExerciseType.TheVariants as exercise
use Rattle.act_model.specs.declared.choice.OptionType.{OptionType}
use Rattle.act_model.specs.declared.choice.OptionType.TheVariants as option
use Rattle.act_model.specs.declared.terms.Futur.{Futur}
use Rattle.act_model.specs.declared.terms.Optns.{Optns}
use Rattle.act_terms.specs.Choices.{exercise_type_named, option_type_named}
use Rattle.act_terms.specs.Fault.{◌>>=◌}
use Rattle.act_terms.specs.Fields.{choice_field, needed, needed_day, needed_where, optional}
use Rattle.act_terms.specs.declared.fault.TermsFault.{TermsFault}
use Rattle.serde_json.specs.Data.{Data}

-- no time, `P0D`
abbrev pub no_time : Cycle
no_time = record { count = 0; unit = unit.D; stub = Short }

-- settlementPeriod
unfoldable pub settlement_period_of : Data → Result Cycle TermsFault
settlement_period_of contract = do
  period ← optional (codes "settlementPeriod") (period_field (codes "settlementPeriod") contract)
  Ok (unwrap_or period no_time)

-- an option that is a call and a put has a strike of each
abbrev pub has_two_strikes : OptionType → Bool
has_two_strikes option.CP = true
has_two_strikes other = false

-- the terms of an OPTNS
unfoldable pub optns_of : Data → Result Optns TermsFault
optns_of contract = do
  maturity ← needed_day (codes "maturityDate") contract
  type ← needed (codes "optionType") (choice_field option_type_named (codes "optionType") contract)
  strike1 ← needed (codes "optionStrike1") (decimal_field (codes "optionStrike1") contract)
  strike2 ← needed_where (has_two_strikes type) (codes "optionStrike2") (decimal_field (codes "optionStrike2") contract)
  exercise_type ← optional (codes "optionExerciseType") (choice_field exercise_type_named (codes "optionExerciseType") contract)
  period ← settlement_period_of contract
  Ok (
      record {
        maturity_date = maturity;
        option_type = type;
        option_strike1 = strike1;
        option_strike2 = strike2;
        option_exercise_type = unwrap_or exercise_type exercise.E;
        settlement_period = period;
        underlying = 0;
      }
      )

-- the terms of a FUTUR
unfoldable pub futur_of : Data → Result Futur TermsFault
futur_of contract = do
  maturity ← needed_day (codes "maturityDate") contract
  price ← needed (codes "futuresPrice") (decimal_field (codes "futuresPrice") contract)
  period ← settlement_period_of contract
  Ok (record { maturity_date = maturity; futures_price = price; settlement_period = period; underlying = 0 })

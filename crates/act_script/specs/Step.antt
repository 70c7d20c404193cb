-- The step of a line among given contracts and names. This profile's own.
use Rattle.std.specs.Prelude.{ℕ, ℤ, pos, ◌+◌, ◌&&◌, nat_lt, int_le, if◌then◌else◌, Bool, true, false, List, slice_get, Result, Ok, Err}
use Rattle.std.specs.Option.{ok_or, option_map_or}
use Rattle.act_model.specs.Limits.{most_entries}
use Rattle.act_model.specs.Names.{NameLists, number_of, place_of, with_name}
use Rattle.act_model.specs.declared.choice.ExerciseType.{ExerciseType}
use Rattle.act_model.specs.declared.choice.ExerciseType.TheVariants.{E, A, B}
use Rattle.act_model.specs.declared.journal.Asked.TheVariants.{All, One}
use Rattle.act_model.specs.declared.journal.Step.{Step}
use Rattle.act_model.specs.declared.journal.Step.TheVariants.{Append, Ask}
use Rattle.act_model.specs.declared.observed.Obs.TheVariants as obs
use Rattle.act_model.specs.declared.observed.ObsKind.{ObsKind}
use Rattle.act_model.specs.declared.observed.ObsKind.TheVariants.{PP, DV, XD, DL, DQ, DF}
use Rattle.act_model.specs.declared.terms.Kind.{Kind}
use Rattle.act_model.specs.declared.terms.Kind.TheVariants.{PAM, LAM, NAM, ANN, STK, OPTNS}
use Rattle.act_model.specs.declared.terms.Terms.{Terms}
use Rattle.act_script.specs.Results.{result_and_then}
use Rattle.act_script.specs.declared.fault.ScriptFault.{ScriptFault}
use Rattle.act_script.specs.declared.fault.ScriptFault.TheVariants.{UnknownName, EventUnfit, TooManyEntries}
use Rattle.act_script.specs.declared.form.Form.{Form}
use Rattle.act_script.specs.declared.form.Form.TheVariants.{Rate, Event, AskAll, AskOne}

-- a loan
abbrev pub is_loan : Kind → Bool
is_loan (PAM terms) = true
is_loan (LAM terms) = true
is_loan (NAM terms) = true
is_loan (ANN terms) = true
is_loan other = false

-- a stock
abbrev pub is_stock : Kind → Bool
is_stock (STK terms) = true
is_stock other = false

-- exercise is observed: an American or a Bermudan one
abbrev pub is_observed : ExerciseType → Bool
is_observed E = false
is_observed A = true
is_observed B = true

-- an option of such exercise
abbrev pub is_early_option : Kind → Bool
is_early_option (OPTNS terms) = is_observed terms.option_exercise_type
is_early_option other = false

-- an event fits a contract: prepayments are of loans and not negative, dividends of stocks, and exercises of early options;
-- credit events are of every kind
unfoldable pub fits : Kind → ObsKind → ℤ → Bool
fits kind PP value = is_loan kind && int_le (pos 0) value
fits kind DV value = is_stock kind
fits kind XD value = is_early_option kind
fits kind DL value = true
fits kind DQ value = true
fits kind DF value = true

-- an event fits the contract of that number
abbrev pub fits_contract : List Terms → ℕ → ObsKind → ℤ → Bool
fits_contract kinds contract kind value = option_map_or (λ terms. fits terms.kind kind value) (slice_get kinds contract) false

-- the number of a named contract, or UnknownName
abbrev pub contract_of : NameLists → ℕ → List ℕ → Result ℕ ScriptFault
contract_of names number contract = ok_or (place_of contract names.contracts) (UnknownName number)

-- the entry of an event of a contract, or EventUnfit
abbrev pub event_step : List Terms → ℕ → ObsKind → ℤ → ℤ → ℕ → Result Step ScriptFault
event_step kinds number kind day value contract =
    if fits_contract kinds contract kind value then Ok (Append (obs.Event contract kind day value)) else Err (EventUnfit number)

-- the step of a line of that number, or the first of its refusals UnknownName and EventUnfit
unfoldable pub step_of : NameLists → List Terms → ℕ → Form → Result Step ScriptFault
step_of names kinds number (Rate code day value) = Ok (Append (obs.Rate (number_of code names.codes) day value))
step_of names kinds number (Event contract kind day value) = result_and_then (event_step kinds number kind day value) (contract_of names number contract)
step_of names kinds number AskAll = Ok (Ask All)
step_of names kinds number (AskOne contract) = result_and_then (λ c. Ok (Ask (One c))) (contract_of names number contract)

-- the names once a line is read: the code of a rate is one of them
unfoldable pub names_with : Form → NameLists → NameLists
names_with (Rate code day value) names = record names { codes = with_name code names.codes }
names_with (Event contract kind day value) names = names
names_with AskAll names = names
names_with (AskOne contract) names = names

-- how many entries all scripts have once a step is counted, or TooManyEntries where there are the most there may be already
unfoldable pub entries_with : ℕ → ℕ → Step → Result ℕ ScriptFault
entries_with number entries (Append entry) = if nat_lt entries most_entries then Ok (entries + 1) else Err (TooManyEntries number)
entries_with number entries (Ask asked) = Ok entries

-- What holds of each script that is read: its lines name what is there, and its entries are counted.
use Rattle.std.proofs.Common.{◌≡◌, ℕ, ◌+◌, ◌<◌, ◌≤◌, nat_lt, Bool, true, false, if◌then◌else◌, ℤ, List, [], ◌∷◌, ◌++◌, length, Option, Some, None, IfSome, Result, Ok, Err, refl, sym, subst, arith, count_by}
use Rattle.std.proofs.lemmas.Bool.Decides.{nat_tests}
use Rattle.std.proofs.lemmas.List.Elements.{All-nil, All-push, All-weaker}
use Rattle.std.specs.List.{All}
use Rattle.std.specs.Option.{ok_or}
use Rattle.act_model.specs.Names.{NameLists, number_of, place_of, with_name}
use Rattle.act_model.proofs.NamePlaces.{no_fewer, number_below, place_below}
use Rattle.act_model.specs.declared.journal.Asked.TheVariants as asked
use Rattle.act_model.specs.declared.journal.Line.{Line}
use Rattle.act_model.specs.declared.journal.Step.{Step}
use Rattle.act_model.specs.declared.journal.Step.TheVariants.{Append, Ask}
use Rattle.act_model.specs.declared.observed.Obs.TheVariants as obs
use Rattle.act_model.specs.declared.observed.ObsKind.{ObsKind}
use Rattle.act_model.specs.declared.terms.Terms.{Terms}
use Rattle.act_script.specs.Form.{form_of}
use Rattle.act_script.specs.Lines.{lines_of}
use Rattle.act_script.specs.Reading.{Script, script_of, with_line, with_lines}
use Rattle.act_script.specs.Results.{result_and_then}
use Rattle.act_script.specs.Step.{entries_with, event_step, fits_contract, names_with, step_of}
use Rattle.act_model.specs.Journal.{appends_entry, is_append, is_known}
use Rattle.act_script.specs.declared.fault.ScriptFault.{ScriptFault}
use Rattle.act_script.specs.declared.fault.ScriptFault.TheVariants.{EventUnfit, NotLine, UnknownName}
use Rattle.act_script.specs.declared.form.Form.{Form}
use Rattle.act_script.specs.declared.form.Form.TheVariants.{Rate, Event, AskAll, AskOne}
use Rattle.act_script.proofs.Adding.{appended_entries}
use Rattle.act_script.proofs.EntryForms.{IsEntryForm, form_holds}

-- ---- names

below : (n m : ℕ) → n < m → nat_lt n m ≡ true
below n m h = grind (arith, nat_tests)

above : (n m : ℕ) → nat_lt n m ≡ true → n < m
above n m h = grind (arith, nat_tests)

-- a step that is known stays so with more codes
more_codes : (names more : NameLists) → more.contracts ≡ names.contracts → length names.codes ≤ length more.codes → (step : Step) → is_known names step ≡ true → is_known more step ≡ true
more_codes names more same few (Append (obs.Rate code day value)) is = let lt = above code (length names.codes) is in below code (length more.codes) (omega arith)
more_codes names more same few (Append (obs.Event contract kind day value)) is = rw same is
more_codes names more same few (Ask asked.All) is = refl
more_codes names more same few (Ask (asked.One contract)) is = rw same is

same_contracts : (form : Form) (names : NameLists) → (names_with form names).contracts ≡ names.contracts
unfolding names_with
same_contracts (Rate code day value) names = refl
same_contracts (Event contract kind day value) names = refl
same_contracts AskAll names = refl
same_contracts (AskOne contract) names = refl

no_fewer_codes : (form : Form) (names : NameLists) → length names.codes ≤ length (names_with form names).codes
unfolding names_with
no_fewer_codes (Rate code day value) names = no_fewer code names.codes
no_fewer_codes (Event contract kind day value) names = omega arith
no_fewer_codes AskAll names = omega arith
no_fewer_codes (AskOne contract) names = omega arith

-- ---- one step

-- what a line's step keeps
abbrev IsKept : NameLists → Step → Type 0
IsKept names step = (is_known names step ≡ true) × (appends_entry step ≡ true)

module _ (names : NameLists) (kinds : List Terms) (number : ℕ) (step : Step) where
  event_by : (kind : ObsKind) (day value : ℤ) (contract : ℕ) (fit : Bool) → contract < length names.contracts → IsEntryForm (Event [] kind day value)
      → (if fit then Ok (Append (obs.Event contract kind day value)) else Err (EventUnfit number)) ≡ Ok step → IsKept names step
  event_by kind day value contract false within entry e = absurd (cc)
  event_by kind day value contract true within entry e =
      let same : Append (obs.Event contract kind day value) ≡ step = (cc) in
      subst (IsKept names) same (below contract (length names.contracts) within, entry)

  event_kept : (contract : List ℕ) (kind : ObsKind) (day value : ℤ) (place : Option ℕ) → place_of contract names.contracts ≡ place → IsEntryForm (Event [] kind day value)
      → result_and_then (event_step kinds number kind day value) (ok_or place (UnknownName number)) ≡ Ok step → IsKept names step
  event_kept contract kind day value None at entry e = absurd (cc)
  event_kept contract kind day value (Some place) at entry e =
      event_by kind day value place (fits_contract kinds place kind value) (place_below contract names.contracts place at) entry e

  ask_kept : (contract : List ℕ) (place : Option ℕ) → place_of contract names.contracts ≡ place
      → result_and_then (λ c. Ok (Ask (asked.One c))) (ok_or place (UnknownName number)) ≡ Ok step → IsKept names step
  ask_kept contract None at e = absurd (cc)
  ask_kept contract (Some place) at e =
      let same : Ask (asked.One place) ≡ step = (cc) in
      subst (IsKept names) same (below place (length names.contracts) (place_below contract names.contracts place at), refl)

step_kept : (names : NameLists) (kinds : List Terms) (number : ℕ) (form : Form) (step : Step) → IsEntryForm form → step_of names kinds number form ≡ Ok step → IsKept (names_with form names) step
unfolding step_of names_with
step_kept names kinds number (Rate code day value) step entry e =
    let same : Append (obs.Rate (number_of code names.codes) day value) ≡ step = (cc) in
    subst (IsKept (record names { codes = with_name code names.codes })) same (below (number_of code names.codes) (length (with_name code names.codes)) (number_below code names.codes), refl)
step_kept names kinds number (Event contract kind day value) step entry e =
    event_kept names kinds number step contract kind day value (place_of contract names.contracts) refl entry e
step_kept names kinds number AskAll step entry e =
    let same : Ask asked.All ≡ step = (cc) in subst (IsKept names) same (refl, refl)
step_kept names kinds number (AskOne contract) step entry e = ask_kept names kinds number step contract (place_of contract names.contracts) refl e

-- ---- a script

-- what holds of a script that began with so many entries
pub record IsSound (start : ℕ) (script : Script) : Type 0 where
  pub known : All (λ line. is_known script.names line.step ≡ true) script.lines
  pub appended : All (λ line. appends_entry line.step ≡ true) script.lines
  pub counted : script.entries ≡ start + count_by (λ line. is_append line.step) script.lines

module _ (start : ℕ) (kinds : List Terms) (script longer : Script) (number : ℕ) (sound : IsSound start script) where
  -- the script with this step
  abbrev with_step : Form → Step → ℕ → Script
  with_step form step entries = record { lines = script.lines ++ record { step = step; line = number } ∷ []; names = names_with form script.names; entries = entries }

  step_sound : (form : Form) (step : Step) (entries : ℕ) → IsEntryForm form → step_of script.names kinds number form ≡ Ok step → entries_with number script.entries step ≡ Ok entries
      → IsSound start (with_step form step entries)
  step_sound form step entries entry is count =
      let kept = step_kept script.names kinds number form step entry is in
      let line : Line = record { step = step; line = number } in
      record {
        known =
            All-push (λ line. is_known (names_with form script.names) line.step ≡ true) script.lines line
            (All-weaker (λ line. is_known script.names line.step ≡ true) (λ line. is_known (names_with form script.names) line.step ≡ true)
            (λ line. more_codes script.names (names_with form script.names) (same_contracts form script.names) (no_fewer_codes form script.names) line.step) script.lines sound.known)
            kept.0;
        appended = All-push (λ line. appends_entry line.step ≡ true) script.lines line sound.appended kept.1;
        counted = appended_entries start number script.entries entries script.lines line sound.counted (sym count);
      }

  by_entries : (form : Form) (step : Step) (entries : Result ℕ ScriptFault) → IsEntryForm form → step_of script.names kinds number form ≡ Ok step
      → entries_with number script.entries step ≡ entries → result_and_then (λ n. Ok (with_step form step n)) entries ≡ Ok longer → IsSound start longer
  by_entries form step (Err fault) entry is count e = absurd (cc)
  by_entries form step (Ok entries) entry is count e =
      let same : with_step form step entries ≡ longer = (cc) in
      subst (IsSound start) same (step_sound form step entries entry is count)

  by_step : (form : Form) (step : Result Step ScriptFault) → IsEntryForm form → step_of script.names kinds number form ≡ step
      → result_and_then (λ s. result_and_then (λ n. Ok (with_step form s n)) (entries_with number script.entries s)) step ≡ Ok longer → IsSound start longer
  by_step form (Err fault) entry is e = absurd (cc)
  by_step form (Ok step) entry is e = by_entries form step (entries_with number script.entries step) entry is refl e

  by_form : (form : Option Form) → IfSome form IsEntryForm
      → result_and_then (λ f. result_and_then (λ s. result_and_then (λ n. Ok (with_step f s n)) (entries_with number script.entries s)) (step_of script.names kinds number f)) (ok_or form (NotLine number)) ≡ Ok longer
      → IsSound start longer
  by_form None entry e = absurd (cc)
  by_form (Some form) entry e = by_step form (step_of script.names kinds number form) entry refl e

  line_sound : (text : List ℕ) → with_line kinds script number text ≡ Ok longer → IsSound start longer
  unfolding with_line
  line_sound text e = by_form (form_of text) (form_holds text) e

module _ (start : ℕ) (kinds : List Terms) (last : Script) where
  by_line : (rest : Script → Result Script ScriptFault) → ((s : Script) → IsSound start s → rest s ≡ Ok last → IsSound start last)
      → (script : Script) (number : ℕ) (text : List ℕ) → IsSound start script → (longer : Result Script ScriptFault) → with_line kinds script number text ≡ longer
      → result_and_then rest longer ≡ Ok last → IsSound start last
  by_line rest next script number text sound (Err fault) is e = absurd (cc)
  by_line rest next script number text sound (Ok longer) is e = next longer (line_sound start kinds script longer number sound text is) e

  lines_sound : (lines : List (ℕ × List ℕ)) (script : Script) → IsSound start script → with_lines kinds script lines ≡ Ok last → IsSound start last
  lines_sound [] script sound e = let same : script ≡ last = (cc) in subst (IsSound start) same sound
  lines_sound (line ∷ lines) script sound e =
      by_line (λ s. with_lines kinds s lines) (lines_sound lines) script line.0 line.1 sound (with_line kinds script line.0 line.1) refl e

pub script_sound : (text : List ℕ) (names : NameLists) (kinds : List Terms) (entries : ℕ) (script : Script) → script_of text names kinds entries ≡ Ok script → IsSound entries script
unfolding script_of
script_sound text names kinds entries script e =
    lines_sound entries kinds script (lines_of text) (record { lines = []; names = names; entries = entries })
    (record { known = All-nil _; appended = All-nil _; counted = omega arith }) e

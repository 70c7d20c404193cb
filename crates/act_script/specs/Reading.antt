-- What a script is read as. This profile's own.
use Rattle.std.specs.Prelude.{◌≡◌, ℕ, if◌then◌else◌, List, [], ◌∷◌, ◌++◌, Result, Ok}
use Rattle.std.specs.Option.{ok_or}
use Rattle.act_model.specs.Names.{NameLists}
use Rattle.act_model.specs.declared.journal.Line.{Line}
use Rattle.act_model.specs.declared.terms.Terms.{Terms}
use Rattle.act_script.specs.Form.{form_of}
use Rattle.act_script.specs.Lines.{is_blank, lines_of}
use Rattle.act_script.specs.Results.{result_and_then}
use Rattle.act_script.specs.Step.{entries_with, names_with, step_of}
use Rattle.act_script.specs.declared.fault.ScriptFault.{ScriptFault}
use Rattle.act_script.specs.declared.fault.ScriptFault.TheVariants.{NotLine}

-- the lines read so far, the names then, and how many entries all scripts have so far
pub record Script : Type 0 where
  pub lines : List Line
  pub names : NameLists
  pub entries : ℕ

infixl 10 ◌>>=◌
-- the next step over what the first gives, or the first one's fault
abbrev pub ◌>>=◌ : {A B : Type 0} → Result A ScriptFault → (A → Result B ScriptFault) → Result B ScriptFault
result >>= next = result_and_then next result

-- the script with one line more, or the first of the line's refusals in the order NotLine, UnknownName, EventUnfit, TooManyEntries
unfoldable pub with_line : List Terms → Script → ℕ → List ℕ → Result Script ScriptFault
with_line kinds script number text = do
  form ← ok_or (form_of text) (NotLine number)
  step ← step_of script.names kinds number form
  entries ← entries_with number script.entries step
  Ok (record { lines = script.lines ++ record { step = step; line = number } ∷ []; names = names_with form script.names; entries = entries })

-- the same with a line that may be blank
abbrev pub with_text : List Terms → Script → ℕ → List ℕ → Result Script ScriptFault
with_text kinds script number text = if is_blank text then Ok script else with_line kinds script number text

-- the script with further lines, each with its number, or the first line's refusal that has one
abbrev pub with_lines : List Terms → Script → List (ℕ × List ℕ) → Result Script ScriptFault
with_lines kinds script [] = Ok script
with_lines kinds script (line ∷ lines) = result_and_then (λ longer. with_lines kinds longer lines) (with_line kinds script line.0 line.1)

-- the lines of a script's text, with the names and the count of entries then, or its first refusal
unfoldable pub script_of : List ℕ → NameLists → List Terms → ℕ → Result Script ScriptFault
script_of text names kinds entries = with_lines kinds (record { lines = []; names = names; entries = entries }) (lines_of text)

-- codes are added behind the earlier ones, and no other names
pub record AddsCodes (old new : NameLists) : Type 0 where
  pub contracts : new.contracts ≡ old.contracts
  pub currencies : new.currencies ≡ old.currencies
  pub codes : (added : List (List ℕ)) × (new.codes ≡ old.codes ++ added)

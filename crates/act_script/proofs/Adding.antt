-- Codes that lines add.
use Rattle.std.proofs.Common.{◌≡◌, ℕ, ◌+◌, ◌≤◌, ◌<◌, nat_lt, Bool, true, false, cond, if◌then◌else◌, List, [], ◌∷◌, ◌++◌, length, Ok, Err, refl, sym, ap, ◌∙◌, arith, append_assoc, length-append, count_by}
use Rattle.std.proofs.lemmas.Bool.Decides.{nat_tests}
use Rattle.std.proofs.lemmas.List.{append-nil}
use Rattle.std.proofs.lemmas.List.Sums.{sum_by-append}
use Rattle.std.specs.Prelude.{is_some}
use Rattle.act_model.specs.Names.{NameLists, number_of, place_of}
use Rattle.act_model.specs.declared.journal.Line.{Line}
use Rattle.act_model.specs.declared.journal.Step.{Step}
use Rattle.act_model.specs.declared.journal.Step.TheVariants.{Append, Ask}
use Rattle.act_model.specs.declared.observed.Obs.{Obs}
use Rattle.act_model.specs.declared.observed.Obs.TheVariants as obs
use Rattle.act_model.specs.declared.terms.Terms.{Terms}
use Rattle.act_script.specs.Reading.{AddsCodes}
use Rattle.act_script.specs.Step.{entries_with, names_with, step_of}
use Rattle.act_model.specs.Journal.{is_append}
use Rattle.act_script.specs.declared.fault.ScriptFault.{ScriptFault}
use Rattle.act_script.specs.declared.fault.ScriptFault.TheVariants.{TooManyEntries}
use Rattle.act_script.specs.declared.form.Form.{Form}
use Rattle.act_script.specs.declared.form.Form.TheVariants.{Rate, Event, AskAll, AskOne}

pub adds_nothing : (names : NameLists) → AddsCodes names names
adds_nothing names = record { contracts = refl; currencies = refl; codes = ([], sym (append-nil names.codes)) }

pub adds_more : (old mid new : NameLists) → AddsCodes old mid → AddsCodes mid new → AddsCodes old new
adds_more old mid new a b = record {
  contracts = b.contracts ∙ a.contracts;
  currencies = b.currencies ∙ a.currencies;
  codes = (a.codes.0 ++ b.codes.0, b.codes.1 ∙ ap (λ codes. codes ++ b.codes.0) a.codes.1 ∙ append_assoc old.codes a.codes.0 b.codes.0);
}

by_place : (known : Bool) (name : List ℕ) (names : List (List ℕ)) → (added : List (List ℕ)) × ((if known then names else names ++ name ∷ []) ≡ names ++ added)
by_place true name names = ([], sym (append-nil names))
by_place false name names = (name ∷ [], refl)

pub adds_form : (form : Form) (names : NameLists) → AddsCodes names (names_with form names)
unfolding names_with
adds_form (Rate code day value) names = record { contracts = refl; currencies = refl; codes = by_place (is_some (place_of code names.codes)) code names.codes }
adds_form (Event contract kind day value) names = adds_nothing names
adds_form AskAll names = adds_nothing names
adds_form (AskOne contract) names = adds_nothing names

length_by_place : (known : Bool) (name : List ℕ) (names : List (List ℕ)) → length (if known then names else names ++ name ∷ []) ≤ length names + 1
length_by_place true name names = omega arith
length_by_place false name names = omega (arith, length-append names (name ∷ []))

-- ---- entries

counted : (room : Bool) (fault : ScriptFault) (entries more : ℕ) → nat_lt entries 1_048_576 ≡ room
    → Ok more ≡ (if room then Ok (entries + 1) else Err fault) → (more ≡ entries + 1) × (entries < 1_048_576)
counted true fault entries more is e = ((cc), grind (arith, nat_tests))
counted false fault entries more is e = absurd (cc)

pub entries_grow : (number entries more : ℕ) (step : Step) → Ok more ≡ entries_with number entries step → entries ≤ more
unfolding entries_with
entries_grow number entries more (Append entry) e = let c = counted (nat_lt entries 1_048_576) (TooManyEntries number) entries more refl e in omega arith
entries_grow number entries more (Ask asked) e = let same : more ≡ entries = (cc) in omega arith

pub entries_within : (number entries more : ℕ) (step : Step) → Ok more ≡ entries_with number entries step → entries ≤ 1_048_576 → more ≤ 1_048_576
unfolding entries_with
entries_within number entries more (Append entry) e few = let c = counted (nat_lt entries 1_048_576) (TooManyEntries number) entries more refl e in omega arith
entries_within number entries more (Ask asked) e few = let same : more ≡ entries = (cc) in omega arith

one_entry : (number entries more : ℕ) (step : Step) (entry : Obs) → step ≡ Append entry → Ok more ≡ entries_with number entries step → more ≡ entries + 1
unfolding entries_with
one_entry number entries more (Append entry) other same e = (counted (nat_lt entries 1_048_576) (TooManyEntries number) entries more refl e).0
one_entry number entries more (Ask asked) other same e = absurd (cc)

-- a line adds a code only with an entry
pub codes_by_entries : (form : Form) (names : NameLists) (kinds : List Terms) (number entries more : ℕ) (step : Step) → Ok step ≡ step_of names kinds number form
    → Ok more ≡ entries_with number entries step → length (names_with form names).codes + entries ≤ length names.codes + more
unfolding names_with step_of
codes_by_entries (Rate code day value) names kinds number entries more step is e =
    let append : step ≡ Append (obs.Rate (number_of code names.codes) day value) = (cc) in
    let one = one_entry number entries more step (obs.Rate (number_of code names.codes) day value) append e in
    let few = length_by_place (is_some (place_of code names.codes)) code names.codes in
    omega arith
codes_by_entries (Event contract kind day value) names kinds number entries more step is e = let grow = entries_grow number entries more step e in omega arith
codes_by_entries AskAll names kinds number entries more step is e = let grow = entries_grow number entries more step e in omega arith
codes_by_entries (AskOne contract) names kinds number entries more step is e = let grow = entries_grow number entries more step e in omega arith

-- a step that appends is one entry more
entries_more : (number entries more : ℕ) (step : Step) → Ok more ≡ entries_with number entries step → more ≡ entries + cond (is_append step) 1 0
unfolding entries_with
entries_more number entries more (Append entry) e = (counted (nat_lt entries 1_048_576) (TooManyEntries number) entries more refl e).0
entries_more number entries more (Ask asked) e = let same : more ≡ entries = (cc) in omega arith

-- the count of entries with one line more
pub appended_entries : (start number entries more : ℕ) (lines : List Line) (line : Line) → entries ≡ start + count_by (λ l. is_append l.step) lines
    → Ok more ≡ entries_with number entries line.step → more ≡ start + count_by (λ l. is_append l.step) (lines ++ line ∷ [])
appended_entries start number entries more lines line e is =
    let one = entries_more number entries more line.step is in
    let sum = sum_by-append (λ (l : Line). cond (is_append l.step) 1 0) lines (line ∷ []) in
    omega arith

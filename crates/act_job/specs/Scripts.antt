-- The scripts of several callers. This profile's own.
use Rattle.std.specs.Prelude.{◌≡◌, ℕ, ◌+◌, ◌≤◌, true, List, [], ◌∷◌, ◌++◌, length}
use Rattle.std.specs.List.{All, count_by, sum_by}
use Rattle.act_model.specs.Journal.{appends_entry, is_append, is_known}
use Rattle.act_model.specs.Limits.{most_entries}
use Rattle.act_model.specs.Names.{NameLists}
use Rattle.act_model.specs.declared.journal.Asked.TheVariants.{All as AskAll}
use Rattle.act_model.specs.declared.journal.Line.{Line}
use Rattle.act_model.specs.declared.journal.Step.TheVariants.{Ask}
use Rattle.act_portfolio.specs.Reading.{Accepted}
use Rattle.act_script.specs.Reading.{AddsCodes, Script}

-- the lines of each script, the names with the codes of all of them, and how many entries they have together
pub record Scripts : Type 0 where
  pub lists : List (List Line)
  pub names : NameLists
  pub entries : ℕ

-- before the first script of a portfolio
abbrev pub no_scripts : Accepted → Scripts
no_scripts portfolio = record { lists = []; names = portfolio.names; entries = 0 }

-- these scripts and one that was read behind them
abbrev pub with_script : Scripts → Script → Scripts
with_script scripts script = record { lists = scripts.lists ++ script.lines ∷ []; names = script.names; entries = script.entries }

-- the one script that asks once for all contracts
abbrev pub ask_for_all : Accepted → Scripts
ask_for_all portfolio = record { lists = (record { step = Ask AskAll; line = 1 } ∷ []) ∷ []; names = portfolio.names; entries = 0 }

-- how many entries scripts append
abbrev pub append_count : List (List Line) → ℕ
append_count lists = sum_by (count_by (λ (line : Line). is_append line.step)) lists

-- what is true of a script that was read with such names and behind so many entries: codes alone were added to the names, what a step names is
-- named, what it appends is an entry of a book, and a book holds all entries
pub record IsReadBehind (names : NameLists) (before : ℕ) (script : Script) : Type 0 where
  pub added : AddsCodes names script.names
  pub known : All (λ (line : Line). is_known script.names line.step ≡ true) script.lines
  pub entries : All (λ (line : Line). appends_entry line.step ≡ true) script.lines
  pub counted : script.entries ≡ before + count_by (λ (line : Line). is_append line.step) script.lines
  pub few : script.entries ≤ most_entries

-- what is true of the scripts of a portfolio: the contracts and the currencies are the portfolio's, with its codes and maybe more; what a step
-- names is named, what it appends is an entry of a book, and a book holds all entries
pub record AreScriptsOf (portfolio : Accepted) (scripts : Scripts) : Type 0 where
  pub contracts : scripts.names.contracts ≡ portfolio.names.contracts
  pub currencies : scripts.names.currencies ≡ portfolio.names.currencies
  pub codes : length portfolio.names.codes ≤ length scripts.names.codes
  pub known : All (All (λ (line : Line). is_known scripts.names line.step ≡ true)) scripts.lists
  pub entries : All (All (λ (line : Line). appends_entry line.step ≡ true)) scripts.lists
  pub counted : scripts.entries ≡ append_count scripts.lists
  pub few : scripts.entries ≤ most_entries

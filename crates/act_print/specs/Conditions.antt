-- Journals and answers that have a text. This profile's own.
use Rattle.std.specs.Prelude.{◌≡◌, ℕ, ◌^◌, ◌<◌, ◌≤◌, ⊤, true, false, List, map, length, codes, Some}
use Rattle.std.specs.List.{AllByRecursion}
use Rattle.std.specs.Str.{bytes_eq}
use Rattle.act_num.specs.Number.{InRange}
use Rattle.act_date.specs.Civil.{IsDay}
use Rattle.act_model.specs.Name.{is_name}
use Rattle.act_model.specs.Names.{NameLists, place_of}
use Rattle.act_model.specs.Observed.{is_entry}
use Rattle.act_model.specs.declared.journal.Asked.{Asked}
use Rattle.act_model.specs.declared.journal.Asked.TheVariants.{All, One}
use Rattle.act_model.specs.declared.journal.Item.{Item}
use Rattle.act_model.specs.declared.journal.Step.{Step}
use Rattle.act_model.specs.declared.journal.Step.TheVariants.{Append, Ask}
use Rattle.act_model.specs.declared.observed.Obs.{Obs}
use Rattle.act_model.specs.declared.observed.Obs.TheVariants.{Rate, Event}
use Rattle.act_model.specs.declared.run.Close.{Close}
use Rattle.act_model.specs.declared.run.Close.TheVariants.{End, Missing, Overflow}
use Rattle.act_text.specs.Lines.{name_of}
use Rattle.act_model.specs.Asks.{asks_of}
use Rattle.act_model.specs.Journal.{contracts_of}
use Rattle.act_print.specs.Printed.{Block, Response, Transcript}
use Rattle.act_model.specs.declared.asks.Asking.{Asking}
use Rattle.act_print.specs.declared.printed.PrintedRow.{PrintedRow}

-- the number of a name, which is its place among those of its sort. Of the names of a portfolio and its scripts, none of which stands twice,
-- these are all numbers below their count
pub record IsNumberOf (names : List (List ℕ)) (number : ℕ) : Type 0 where
  pub name : is_name (name_of names number) ≡ true
  pub place : place_of (name_of names number) names ≡ Some number

-- an entry with a code or a contract of the names, a day and a value; the value of a credit event is 0
abbrev pub IsEntry : NameLists → Obs → Type 0
IsEntry names (Rate code day value) = IsNumberOf names.codes code × IsDay day × InRange value
IsEntry names (Event contract kind day value) =
    IsNumberOf names.contracts contract × IsDay day × InRange value × (is_entry (Event contract kind day value) ≡ true)

-- what can be asked for: all contracts, or one by its name. None is named `*`, which stands for all
abbrev pub CanBeAsked : NameLists → Asked → Type 0
CanBeAsked names All = ⊤
CanBeAsked names (One contract) =
    IsNumberOf names.contracts contract × (bytes_eq (name_of names.contracts contract) (codes "*") ≡ false)

-- a step of a caller
abbrev pub IsStep : NameLists → Step → Type 0
IsStep names (Append entry) = IsEntry names entry
IsStep names (Ask asked) = CanBeAsked names asked

-- an item of a journal; the callers are from 1 to 16
pub record IsItem (names : NameLists) (item : Item) : Type 0 where
  pub caller_from : 1 ≤ item.caller
  pub caller_to : item.caller ≤ 16
  pub step : IsStep names item.step

-- a journal that can be printed: fewer than 2^64 items of callers from 1 to 16, of which each names what there is
pub record IsJournal (names : NameLists) (items : List Item) : Type 0 where
  pub few : length items < 2 ^ 64
  pub each : AllByRecursion (IsItem names) items

-- a row with a day, a currency of the names, and amounts
pub record IsRow (names : NameLists) (row : PrintedRow) : Type 0 where
  pub day : IsDay row.day
  pub currency : IsNumberOf names.currencies row.currency
  pub payoff : InRange row.payoff
  pub nt : InRange row.nt
  pub ipnr : InRange row.ipnr
  pub ipac : InRange row.ipac

-- how rows close: a missing code is one of the names
abbrev pub IsClose : NameLists → Close → Type 0
IsClose names End = ⊤
IsClose names (Missing code day) = IsNumberOf names.codes code × IsDay day
IsClose names (Overflow day kind) = IsDay day

-- the rows of a contract, and how they close
pub record IsBlock (names : NameLists) (block : Block) : Type 0 where
  pub rows : AllByRecursion (IsRow names) block.rows
  pub close : IsClose names block.close

-- what a journal and the names fix of an answer: all but rows and closes
pub record Due : Type 0 where
  pub caller : ℕ
  pub number : ℕ
  pub version : ℕ
  pub contracts : List ℕ

-- what they fix of the answer to an ask
abbrev pub due_to_ask : NameLists → Asking → Due
due_to_ask names ask =
    record { caller = ask.caller; number = ask.number; version = ask.version; contracts = contracts_of names ask.asked }

-- that part of an answer
abbrev pub due_in_answer : Response → Due
due_in_answer answer =
    record { caller = answer.caller; number = answer.number; version = answer.version; contracts = map (λ block. block.contract) answer.blocks }

-- a journal of fewer than 2^64 items with one answer for each ask, by caller and then by number, and in it a block for
-- each contract asked, in portfolio order
pub record IsTranscript (names : NameLists) (printed : Transcript) : Type 0 where
  pub few : length printed.items < 2 ^ 64
  pub items : AllByRecursion (IsItem names) printed.items
  pub due : map due_in_answer printed.answers ≡ map (due_to_ask names) (asks_of printed.items)
  pub blocks : AllByRecursion (λ answer. AllByRecursion (IsBlock names) answer.blocks) printed.answers

-- each contract has a name
abbrev pub ContractsNamed : NameLists → Type 0
ContractsNamed names =
    (contract : ℕ) → contract < length names.contracts → is_name (name_of names.contracts contract) ≡ true

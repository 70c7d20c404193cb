-- Lines that are read, each by itself. This profile's own.
use Rattle.std.specs.Prelude.{ℕ, ℤ, pos, if◌then◌else◌, List, Option, Some, None, option_map, codes}
use Rattle.std.specs.Str.{bytes_eq}
use Rattle.act_model.specs.Names.{NameLists}
use Rattle.act_model.specs.declared.journal.Asked.TheVariants.{All, One}
use Rattle.act_model.specs.declared.journal.Item.{Item}
use Rattle.act_model.specs.declared.journal.Step.{Step}
use Rattle.act_model.specs.declared.journal.Step.TheVariants.{Append, Ask}
use Rattle.act_model.specs.declared.observed.Obs.TheVariants.{Rate, Event}
use Rattle.act_model.specs.declared.observed.ObsKind.{ObsKind}
use Rattle.act_model.specs.declared.observed.ObsKind.TheVariants.{PP, DV, XD, DL, DQ, DF}
use Rattle.act_model.specs.declared.run.Close.{Close}
use Rattle.act_model.specs.declared.run.Close.TheVariants.{End, Missing, Overflow}
use Rattle.act_print.specs.Words.{◌>>=◌, caller_word, count_word, day_word, name_word, number_word, type_word, value_at, word_at}
use Rattle.act_print.specs.declared.printed.PrintedRow.{PrintedRow}

-- the count of a journal's items, in the line above them
unfoldable pub count_of_line : List ℕ → Option ℕ
count_of_line line = do
  word ← word_at line
  if bytes_eq word.0 (codes "journal") then count_word word.1 else None

-- a rate, behind its word
unfoldable pub rate_words : NameLists → List ℕ → Option Step
rate_words names text = do
  code ← value_at (name_word names.codes) text
  day ← value_at day_word code.1
  value ← number_word day.1
  Some (Append (Rate code.0 day.0 value))

-- a credit event
unfoldable pub credit_word : List ℕ → Option ObsKind
credit_word word =
    if bytes_eq word (codes "DL") then Some DL
    else (if bytes_eq word (codes "DQ") then Some DQ
    else (if bytes_eq word (codes "DF") then Some DF else None))

-- the kind and the value of an event, by their words
unfoldable pub happening_words : List ℕ → List ℕ → Option (ObsKind × ℤ)
happening_words kind value =
    if bytes_eq kind (codes "PP") then option_map (λ amount. (PP, amount)) (number_word value)
    else (if bytes_eq kind (codes "DV") then option_map (λ amount. (DV, amount)) (number_word value)
    else (if bytes_eq kind (codes "XD") then option_map (λ amount. (XD, amount)) (number_word value)
    else (if bytes_eq kind (codes "CE") then option_map (λ credit. (credit, pos 0)) (credit_word value)
    else None)))

-- an event, behind its word
unfoldable pub event_words : NameLists → List ℕ → Option Step
event_words names text = do
  contract ← value_at (name_word names.contracts) text
  kind ← word_at contract.1
  day ← value_at day_word kind.1
  what ← happening_words kind.0 day.1
  Some (Append (Event contract.0 what.0 day.0 what.1))

-- what is asked for
unfoldable pub ask_words : NameLists → List ℕ → Option Step
ask_words names word =
    if bytes_eq word (codes "*") then Some (Ask All)
    else option_map (λ contract. Ask (One contract)) (name_word names.contracts word)

-- a step, by its first word and what stands behind it
unfoldable pub step_of_words : NameLists → List ℕ → List ℕ → Option Step
step_of_words names word text =
    if bytes_eq word (codes "rate") then rate_words names text
    else (if bytes_eq word (codes "event") then event_words names text
    else (if bytes_eq word (codes "ask") then ask_words names text else None))

-- an item of a journal
unfoldable pub item_of_line : NameLists → List ℕ → Option Item
item_of_line names line = do
  caller ← value_at caller_word line
  word ← word_at caller.1
  step ← step_of_words names word.0 word.1
  Some (record { caller = caller.0; step = step })

-- a row
unfoldable pub row_of_line : NameLists → List ℕ → Option PrintedRow
row_of_line names line = do
  day ← value_at day_word line
  kind ← value_at type_word day.1
  currency ← value_at (name_word names.currencies) kind.1
  payoff ← value_at number_word currency.1
  nt ← value_at number_word payoff.1
  ipnr ← value_at number_word nt.1
  ipac ← number_word ipnr.1
  Some (record { day = day.0; kind = kind.0; currency = currency.0; payoff = payoff.0; nt = nt.0; ipnr = ipnr.0; ipac = ipac })

-- an observation that isn't there, behind its word
unfoldable pub missing_words : NameLists → List ℕ → Option Close
missing_words names text = do
  code ← value_at (name_word names.codes) text
  day ← day_word code.1
  Some (Missing code.0 day)

-- an amount that is undefined, behind its word
unfoldable pub overflow_words : List ℕ → Option Close
overflow_words text = do
  day ← value_at day_word text
  kind ← type_word day.1
  Some (Overflow day.0 kind)

-- how rows close, by the first word and what stands behind it
unfoldable pub stop_words : NameLists → List ℕ → List ℕ → Option Close
stop_words names word text =
    if bytes_eq word (codes "missing") then missing_words names text
    else (if bytes_eq word (codes "overflow") then overflow_words text else None)

-- how rows close
unfoldable pub close_of_line : NameLists → List ℕ → Option Close
close_of_line names line =
    if bytes_eq line (codes "end") then Some End
    else (word_at line >>= λ word. stop_words names word.0 word.1)

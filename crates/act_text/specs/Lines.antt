-- Lines of text, as bytes: those of a contract's rows and of how they close. This profile's own.
use Rattle.std.specs.Prelude.{ℕ, ℤ, List, [], ◌∷◌, ◌++◌, slice_get, unwrap_or, codes}
use Rattle.act_num.specs.Decimal.{printed}
use Rattle.act_date.specs.Text.{date_text}
use Rattle.act_model.specs.Names.{NameLists}
use Rattle.act_model.specs.declared.event.EventType.{EventType}
use Rattle.act_model.specs.declared.event.EventType.TheVariants.{IED, PR, PP, PY, FP, PRD, TD, IP, IPCI, RRF, RR, PRF, IPCB, SC, DV, MD, CE, XD, STD}
use Rattle.act_model.specs.declared.run.Close.{Close}
use Rattle.act_model.specs.declared.run.Close.TheVariants.{End, Missing, Overflow}
use Rattle.act_model.specs.declared.run.Row.{Row}

-- a line feed behind words that each follow a space
abbrev pub rest_of_line : List (List ℕ) → List ℕ
rest_of_line [] = codes "\n"
rest_of_line (word ∷ words) = codes " " ++ word ++ rest_of_line words

-- a line: a word, the others each behind a space, and a line feed
abbrev pub line_of : List ℕ → List (List ℕ) → List ℕ
line_of word words = word ++ rest_of_line words

-- the name of that number, or nothing where there is no such number
abbrev pub name_of : List (List ℕ) → ℕ → List ℕ
name_of names number = unwrap_or (slice_get names number) []

-- the word of a type of events: its ACTUS name
abbrev pub type_text : EventType → List ℕ
type_text IED = codes "IED"
type_text PR = codes "PR"
type_text PP = codes "PP"
type_text PY = codes "PY"
type_text FP = codes "FP"
type_text PRD = codes "PRD"
type_text TD = codes "TD"
type_text IP = codes "IP"
type_text IPCI = codes "IPCI"
type_text RRF = codes "RRF"
type_text RR = codes "RR"
type_text PRF = codes "PRF"
type_text IPCB = codes "IPCB"
type_text SC = codes "SC"
type_text DV = codes "DV"
type_text MD = codes "MD"
type_text CE = codes "CE"
type_text XD = codes "XD"
type_text STD = codes "STD"

-- day, type and currency of a row, its payoff, and notional, rate and interest accrued
unfoldable pub cells_text : NameLists → ℤ → EventType → ℕ → ℤ → ℤ → ℤ → ℤ → List ℕ
cells_text names day kind currency payoff nt ipnr ipac =
    line_of (date_text day) (type_text kind ∷ name_of names.currencies currency ∷ printed payoff ∷ printed nt ∷ printed ipnr ∷ printed ipac ∷ [])

-- the line of a row: notional, rate and interest accrued are of the state after the event
abbrev pub row_text : NameLists → Row → List ℕ
row_text names row =
    cells_text names row.day row.kind row.currency row.payoff row.state.nt row.state.ipnr row.state.ipac

-- the line of how rows close
unfoldable pub close_text : NameLists → Close → List ℕ
close_text names End = line_of (codes "end") []
close_text names (Missing code day) = line_of (codes "missing") (name_of names.codes code ∷ date_text day ∷ [])
close_text names (Overflow day kind) = line_of (codes "overflow") (date_text day ∷ type_text kind ∷ [])

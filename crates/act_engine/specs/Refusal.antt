-- Why a command is refused, and the line that says so. This profile's own.
use Rattle.std.specs.Prelude.{ℕ, List, [], ◌∷◌, codes, decimal}
use Rattle.act_text.specs.Lines.{line_of}
use Rattle.act_engine.specs.declared.refusal.Refusal.{Refusal as RefusalMade}
use Rattle.act_engine.specs.declared.refusal.Refusal.TheVariants as made
use Rattle.act_engine.specs.declared.refusal.ScriptRule.{ScriptRule}
use Rattle.act_engine.specs.declared.refusal.ScriptRule.TheVariants.{NotLine, UnknownName, EventUnfit, TooManyEntries, TooMuchAsked}
use Rattle.act_engine.specs.declared.status.Status.{Status}
use Rattle.act_engine.specs.declared.status.Status.TheVariants.{Words as WordsStatus, ReadFault, TooLong as TooLongStatus, PortfolioRefused, ScriptRefused}

-- Why a command is refused: its words are of no form, a file wasn't read or is too long, the portfolio is refused by the rule of that number for
-- the contract at that place, or a script by a rule for a line.
pub data Refusal : Type 0 where
  Words : Refusal
  Unread : (name : List ℕ) → Refusal
  TooLong : (name : List ℕ) → Refusal
  Portfolio : (number : ℕ) → (place : ℕ) → (what : List ℕ) → Refusal
  Script : (rule : ScriptRule) → (script : ℕ) → (line : ℕ) → Refusal

-- the same of the program's refusal
abbrev pub refusal_of : RefusalMade → Refusal
refusal_of made.Words = Words
refusal_of (made.Unread name) = Unread name.now
refusal_of (made.TooLong name) = TooLong name.now
refusal_of (made.Portfolio number place what) = Portfolio number place what.items
refusal_of (made.Script rule script line) = Script rule script line

-- the number of a rule for scripts
abbrev pub rule_number : ScriptRule → ℕ
rule_number NotLine = 1
rule_number UnknownName = 2
rule_number EventUnfit = 3
rule_number TooManyEntries = 4
rule_number TooMuchAsked = 5

-- the line of a portfolio that is refused
unfoldable pub portfolio_line : ℕ → ℕ → List ℕ → List ℕ
portfolio_line number place what = line_of (codes "portfolio") (decimal number ∷ decimal place ∷ what ∷ [])

-- and of a script
unfoldable pub script_line : ScriptRule → ℕ → ℕ → List ℕ
script_line rule script line = line_of (codes "script") (decimal (rule_number rule) ∷ decimal script ∷ decimal line ∷ [])

-- the line of a refusal; that of words is the usage line
unfoldable pub refusal_line : List ℕ → Refusal → List ℕ
refusal_line usage Words = usage
refusal_line usage (Unread name) = line_of (codes "read") (name ∷ [])
refusal_line usage (TooLong name) = line_of (codes "long") (name ∷ [])
refusal_line usage (Portfolio number place what) = portfolio_line number place what
refusal_line usage (Script rule script line) = script_line rule script line

-- its status
abbrev pub refusal_status : Refusal → Status
refusal_status Words = WordsStatus
refusal_status (Unread name) = ReadFault
refusal_status (TooLong name) = TooLongStatus
refusal_status (Portfolio number place what) = PortfolioRefused
refusal_status (Script rule script line) = ScriptRefused

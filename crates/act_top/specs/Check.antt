-- What `check` writes. This profile's own.
use Rattle.std.specs.Prelude.{◌≡◌, ℕ, ◌+◌, if◌then◌else◌, List, [], ◌∷◌, ◌++◌, length, codes, decimal, Option, None}
use Rattle.std.specs.List.{flat_map}
use Rattle.act_cones.specs.Counts.{scheduled_count}
use Rattle.act_engine.specs.Ending.{Meaning, Outcome}
use Rattle.act_engine.specs.declared.status.Status.TheVariants.{Done}
use Rattle.act_history.specs.History.{History}
use Rattle.act_job.specs.Reading.{portfolio_reading}
use Rattle.act_model.specs.Kind.{type_name, type_of}
use Rattle.act_model.specs.Name.{has_form}
use Rattle.act_model.specs.declared.terms.Terms.{Terms}
use Rattle.act_portfolio.specs.Reading.{Accepted}
use Rattle.act_text.specs.Lines.{line_of}

-- a name of printable characters without space, of whatever length, stands as it is, and any other as `?`
abbrev pub shown_name : List ℕ → List ℕ
shown_name name = if has_form (length name) name then name else codes "?"

-- the line of a name that isn't used
unfoldable pub unused_line : List ℕ → List ℕ
unused_line name = line_of (codes "unused") (shown_name name ∷ [])

-- the line of a contract: its name, its kind and its scheduled count
unfoldable pub contract_line : List ℕ → List ℕ → ℕ → List ℕ
contract_line id kind count = line_of (codes "contract") (id ∷ kind ∷ decimal count ∷ [])

-- the line of a portfolio: how many contracts have a name
unfoldable pub count_line : ℕ → List ℕ
count_line count = line_of (codes "portfolio") (codes "ok" ∷ decimal count ∷ [])

-- a contract: its name, its kind and its scheduled count, and below it each name that isn't used
abbrev pub contract_text : Accepted → ℕ → Terms → List ℕ → List (List ℕ) → List ℕ
contract_text portfolio c terms id unused =
    contract_line id (type_name (type_of terms.kind)) (scheduled_count portfolio.contracts c) ++ flat_map unused_line unused

-- the contracts from a number on
unfoldable pub contracts_text : Accepted → ℕ → List Terms → List (List ℕ) → List (List (List ℕ)) → List ℕ
contracts_text portfolio c (terms ∷ others) (id ∷ ids) (unused ∷ lists) = contract_text portfolio c terms id unused ++ contracts_text portfolio (c + 1) others ids lists
contracts_text portfolio c others ids lists = []

-- how many contracts have a name, and each of them
abbrev pub check_text : Accepted → List ℕ
check_text portfolio =
    count_line (length portfolio.names.contracts)
    ++ contracts_text portfolio 0 portfolio.contracts.terms portfolio.names.contracts portfolio.unused

-- `check P`: the portfolio of a file is read, and its contracts are written
abbrev pub IsCheck : Accepted → Outcome → Option History → Type 0
IsCheck portfolio outcome board = (outcome ≡ record { status = Done; text = check_text portfolio; rows = 0 }) × (board ≡ None)

-- as a command
abbrev pub check_meaning : List ℕ → Meaning Accepted History
check_meaning portfolio = record { reading = portfolio_reading portfolio; IsOutcome = IsCheck }

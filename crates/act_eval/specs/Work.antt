-- The work of a journal: how many rows are computed for its asks, where a contract's evaluation goes on from what is kept of the one before. This
-- profile's own.
use Rattle.std.specs.Prelude.{ℕ, ◌+◌, ◌-◌, ◌==◌, if◌then◌else◌, Bool, List, [], ◌∷◌, ◌++◌, length, take, Option, Some, None}
use Rattle.std.specs.List.{filter, range_with_len, sum_by}
use Rattle.std.specs.Option.{option_or}
use Rattle.act_history.specs.Reached.{is_reached}
use Rattle.act_model.specs.Asks.{asks_of}
use Rattle.act_model.specs.Journal.{book_of, contracts_of}
use Rattle.act_model.specs.declared.asks.Asking.{Asking}
use Rattle.act_model.specs.declared.journal.Item.{Item}
use Rattle.act_model.specs.declared.observed.Obs.{Obs}
use Rattle.act_portfolio.specs.Reading.{Accepted}
use Rattle.act_profile.specs.Kept.{KeptRows, kept_of}
use Rattle.act_profile.specs.Reads.{cut_of}
use Rattle.act_profile.specs.Run.{Contracts, run_of}

-- what a later version of the book keeps of a contract's run at an earlier one: its kept rows under the cut between the two
abbrev pub kept_later : Contracts → List Obs → ℕ → ℕ → ℕ → KeptRows
kept_later contracts book c earlier later = kept_of (run_of contracts (take earlier book) c) (cut_of contracts c book earlier later)

-- how many rows of a contract's run at a version aren't kept of its run at the last version before: all where there is none, and none where that is
-- the same version
abbrev pub fresh_rows : Contracts → List Obs → ℕ → Option ℕ → ℕ → ℕ
fresh_rows contracts book c None version = length (run_of contracts (take version book) c).rows
fresh_rows contracts book c (Some last) version =
    if last == version then 0
    else length (run_of contracts (take version book) c).rows - length (kept_later contracts book c last version).rows

-- an ask asks for a contract, or reaches it
abbrev pub reaches : Accepted → Asking → ℕ → Bool
reaches portfolio ask c = is_reached portfolio.contracts (contracts_of portfolio.names ask.asked) c

-- the version of the last of some asks that reaches a contract
abbrev pub last_version : Accepted → List Asking → ℕ → Option ℕ
last_version portfolio [] c = None
last_version portfolio (ask ∷ asks) c = option_or (last_version portfolio asks c) (if reaches portfolio ask c then Some ask.version else None)

-- the rows of an ask behind others: of each contract that it reaches, those that aren't kept of its run at the last version at which one of these
-- reached it
abbrev pub ask_work : Accepted → List Obs → List Asking → Asking → ℕ
ask_work portfolio book before ask =
    sum_by (λ c. fresh_rows portfolio.contracts book c (last_version portfolio before c) ask.version)
    (filter (reaches portfolio ask) (range_with_len 0 (length portfolio.contracts.terms)))

-- the rows of asks behind others, in their order
abbrev pub asks_work : Accepted → List Obs → List Asking → List Asking → ℕ
asks_work portfolio book before [] = 0
asks_work portfolio book before (ask ∷ asks) = ask_work portfolio book before ask + asks_work portfolio book (before ++ ask ∷ []) asks

-- the work of a journal of one caller
abbrev pub work_of : Accepted → List Item → ℕ
work_of portfolio items = asks_work portfolio (book_of items) [] (asks_of items)

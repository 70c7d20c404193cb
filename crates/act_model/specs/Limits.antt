-- How much there may be of what. This profile's own.
use Rattle.std.specs.Prelude.{ℕ}

-- the most bytes of a file: 64 MiB
abbrev pub most_bytes : ℕ
most_bytes = 67_108_864

-- the most asks of a caller
abbrev pub most_asks : ℕ
most_asks = 4_194_304

-- the most callers of a board, each with a script
abbrev pub most_callers : ℕ
most_callers = 16

-- the most contracts of a portfolio
abbrev pub most_contracts : ℕ
most_contracts = 4096

-- the most scheduled events of a contract, and the most redemptions of one
abbrev pub most_dates : ℕ
most_dates = 4096

-- the most entries of a book, and of all scripts together
abbrev pub most_entries : ℕ
most_entries = 1_048_576

-- the most names of one sort, as of contracts
abbrev pub most_names : ℕ
most_names = 134_217_727

-- the most asks of a caller that are open at a time
abbrev pub most_open : ℕ
most_open = 256

-- the most workers of a desk
abbrev pub most_workers : ℕ
most_workers = 64

-- The rows of a run in chunks, which runs share. This profile's own.
use Rattle.std.specs.Prelude.{◌≡◌, ℕ, ◌≤◌, List, Option, Some, None, length}
use Rattle.std.specs.List.{All, flat_map}
use Rattle.act_model.specs.declared.run.Row.{Row}

-- how many full chunks there are at most
abbrev pub most_chunks : ℕ
most_chunks = 4294967296

-- the rows of chunks, one behind another
abbrev pub rows_of : List (List Row) → List Row
rows_of chunks = flat_map (λ chunk. chunk) chunks

-- the rows of the next chunk, where there is one, and else the last
abbrev pub next_rows : Option (List Row) → List Row → List Row
next_rows None last = last
next_rows (Some chunk) last = chunk

-- each chunk has 64 rows, and at most 64 stand behind them
pub record AreChunks (full : List (List Row)) (last : List Row) : Type 0 where
  pub each : All (λ chunk. length chunk ≡ 64) full
  pub few : length full ≤ most_chunks
  pub short : length last ≤ 64

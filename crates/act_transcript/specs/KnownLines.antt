-- Which lines that are kept are known to be those of blocks. This profile's own.
use Rattle.std.specs.Prelude.{◌≡◌, ◌≢◌, ◌<◌, ◌≤◌, ◌⊎◌, ℕ, ℤ, List, [], length, take, Option, None, Some, IfSome}
use Rattle.std.specs.List.{All as Each, slice_get}
use Rattle.act_history.specs.History.{History, entries_of, version_of}
use Rattle.act_model.specs.Answer.{Reply}
use Rattle.act_model.specs.Run.{Stream}
use Rattle.act_print.specs.Text.{block_head_text}
use Rattle.act_profile.specs.Kept.{kept_of}
use Rattle.act_profile.specs.Run.{run_of}
use Rattle.act_profile.specs.DayOrder.{AreInDayOrder}
use Rattle.act_text.specs.Kept.{AreWrittenWith, Lines}
use Rattle.act_text.specs.Lines.{close_text}
use Rattle.act_transcript.specs.declared.blocks.Blocks.{Blocks}
use Rattle.act_transcript.specs.declared.blocks.Known.{Known}
use Rattle.act_transcript.specs.declared.blocks.Known.TheVariants.{Before, All}

-- lines are the block of a contract with its run
pub record IsBlock (c : ℕ) (run : Stream) (lines : Lines) : Type 0 where
  pub front : lines.front ≡ block_head_text lines.names c
  pub rows : lines.rows ≡ run.rows
  pub back : lines.back ≡ close_text lines.names run.close

-- behind a contract's head, the rows that are kept of its run under a cut are the first of lines, and where there is no cut these are the run's block
pub record IsKnownTo (c : ℕ) (cut : Option ℤ) (lines : Lines) (run : Stream) : Type 0 where
  pub front : lines.front ≡ block_head_text lines.names c
  pub within : length (kept_of run cut).rows ≤ length lines.rows
  pub same : take (length (kept_of run cut).rows) lines.rows ≡ take (length (kept_of run cut).rows) run.rows
  pub whole : cut ≡ None → IsBlock c run lines

-- what is known of a contract's lines, by a cut: the rows before its day stay, or all of the block where there is no cut
abbrev pub known_to : Option ℤ → Known
known_to None = All
known_to (Some day) = Before day

-- where a cut is told of a contract, the rows of its run stand by their days, and the lines that are kept are known to it
abbrev pub IsKnown : List Known → List Lines → ℕ → Stream → Type 0
IsKnown known kept c run = (cut : Option ℤ) → slice_get known c ≡ Some (known_to cut)
    → AreInDayOrder run.rows × ((lines : Lines) → slice_get kept c ≡ Some lines → IsKnownTo c cut lines run)

-- the same of contracts with their runs, unless nothing is known. Runs of one contract are the same
abbrev pub AreKnown : List Known → List Lines → List (ℕ × Stream) → Type 0
AreKnown known kept runs = (known ≡ []) ⊎ ((own : ℕ → Stream) × Each (λ (run : ℕ × Stream). run.1 ≡ own run.0) runs × Each (λ (run : ℕ × Stream). IsKnown known kept run.0 run.1) runs)

-- the lines that are kept of a contract are its block with a run, and those of others stay
pub record IsRenewed (c : ℕ) (run : Stream) (before after : List Lines) : Type 0 where
  pub count : length after ≡ length before
  pub this : (lines : Lines) → slice_get after c ≡ Some lines → IsBlock c run lines
  pub others : (d : ℕ) → d ≢ c → slice_get after d ≡ slice_get before d

-- the lines that are kept of each contract with a run are its block with this run, where runs of one contract are the same
pub record AreRenewed (runs : List (ℕ × Stream)) (before after : List Lines) : Type 0 where
  pub count : length after ≡ length before
  pub each : (own : ℕ → Stream) → Each (λ (run : ℕ × Stream). run.1 ≡ own run.0) runs
      → Each (λ (run : ℕ × Stream). (lines : Lines) → slice_get after run.0 ≡ Some lines → IsBlock run.0 (own run.0) lines) runs

-- ---- of a board

-- an answer of a board: its version is one of the book's, and each run is its contract's over the entries before
pub record IsReplyOn (board : History) (reply : Reply) : Type 0 where
  pub version : reply.version ≤ version_of board
  pub runs : Each (λ (run : ℕ × Stream). run.1 ≡ run_of board.portfolio.contracts (take reply.version (entries_of board)) run.0) reply.runs

-- runs are of all contracts, so many, by their numbers
abbrev pub AreOfAll : ℕ → List (ℕ × Stream) → Type 0
AreOfAll count runs = (c : ℕ) → c < count → (run : ℕ × Stream) × (slice_get runs c ≡ Some run) × (run.0 ≡ c)

-- the lines that are kept of contracts are their blocks with their runs at a version of a board's book
abbrev pub AreWrittenAt : History → List Lines → ℕ → Type 0
AreWrittenAt board kept version = (c : ℕ) (lines : Lines) → slice_get kept c ≡ Some lines → IsBlock c (run_of board.portfolio.contracts (take version (entries_of board)) c) lines

-- where a version is given, it is one of the book's, and they were written at it
abbrev pub AreKeptAt : History → List Lines → Option ℕ → Type 0
AreKeptAt board kept at = IfSome at (λ version. (version ≤ version_of board) × AreWrittenAt board kept version)

-- ---- blocks

-- blocks of a board: each is of a contract with a name, they are written with the names, and where a version is given the lines of all contracts
-- are their blocks at it
pub record AreBlocksOf (board : History) (blocks : Blocks) : Type 0 where
  pub named : length blocks.kept.items ≤ length blocks.names.now.contracts
  pub written : AreWrittenWith blocks.names.now blocks.kept.items
  pub at : AreKeptAt board blocks.kept.items blocks.at

-- what is known of blocks is so of the runs over the entries of a board's book at a version
abbrev pub AreKnownAt : History → ℕ → Blocks → Type 0
AreKnownAt board version blocks = (c : ℕ) → IsKnown blocks.known.items blocks.kept.items c (run_of board.portfolio.contracts (take version (entries_of board)) c)

-- what is known of a contract's block is so of a run, and of others the blocks stay, and what is known of them
pub record IsPut (c : ℕ) (run : Stream) (before after : Blocks) : Type 0 where
  pub this : IsKnown after.known.items after.kept.items c run
  pub others : (d : ℕ) → d ≢ c → (slice_get after.known.items d ≡ slice_get before.known.items d) × (slice_get after.kept.items d ≡ slice_get before.kept.items d)

-- blocks have as many places as others, and are written with the same names
pub record AreOnesOf (before after : Blocks) : Type 0 where
  pub names : after.names.now ≡ before.names.now
  pub count : length after.kept.items ≡ length before.kept.items
  pub written : AreWrittenWith after.names.now after.kept.items

-- Rows of a chunk, and what they share. This profile's own.
use Rattle.std.specs.Prelude.{◌≡◌, ℕ, ℤ, ◌<◌, ◌≤◌, pos, List, ◌∷◌, ◌++◌, length, None, Some, if◌then◌else◌, get_or}
use Rattle.act_model.specs.declared.shared.Counts.{Counts}
use Rattle.act_model.specs.declared.numbers.Level.{Level}
use Rattle.act_model.specs.declared.numbers.Numbers.{Numbers}
use Rattle.act_model.specs.declared.shared.Rest.{Rest}
use Rattle.act_model.specs.declared.shared.Shared.{Shared}
use Rattle.act_model.specs.declared.numbers.Short.{Short}
use Rattle.act_model.specs.declared.shared.Slim.{Slim}
use Rattle.act_model.specs.declared.run.Row.{Row}
use Rattle.act_model.specs.declared.run.RowHead.{RowHead}
use Rattle.act_model.specs.declared.state.State.{State}

-- ---- the parts of a row

-- the rest of a state
abbrev pub rest_of : State → Rest
rest_of state = record {
  md = state.md;
  xd = state.xd;
  ipnr2 = state.ipnr2;
  ipac2 = state.ipac2;
  nsc = state.nsc;
  isc = state.isc;
  prnxt = state.prnxt;
  xa = state.xa;
}

-- the numbers of a row
abbrev pub numbers_of : RowHead → State → Numbers
numbers_of head state = record { payoff = head.payoff; nt = state.nt; ipnr = state.ipnr; ipac = state.ipac; feac = state.feac; ipcb = state.ipcb }

-- the numbers that short ones are
abbrev pub numbers_in : Short → Numbers
numbers_in short = record { payoff = short.payoff; nt = short.nt; ipnr = short.ipnr; ipac = short.ipac; feac = short.feac; ipcb = short.ipcb }

-- the level of short numbers, with a currency
abbrev pub level_of : Short → ℕ → Level
level_of short currency = record { nt = short.nt; ipnr = short.ipnr; feac = short.feac; ipcb = short.ipcb; currency = currency }

-- the short numbers of a row with a level
abbrev pub short_of : Level → Slim → Short
short_of level slim = record { payoff = slim.payoff; nt = level.nt; ipnr = level.ipnr; ipac = slim.ipac; feac = level.feac; ipcb = level.ipcb }

-- what is printed of numbers: the payoff, the notional, the rate and the interest accrued
abbrev pub printed_numbers : Numbers → ℤ × ℤ × ℤ × ℤ
printed_numbers numbers = (numbers.payoff, numbers.nt, numbers.ipnr, numbers.ipac)

-- what is printed of a level: the notional, the rate and the currency
abbrev pub printed_level : Level → ℤ × ℤ × ℕ
printed_level level = (level.nt, level.ipnr, level.currency)

-- a row with a rest, a currency and numbers
abbrev pub row_of : Rest → ℕ → Numbers → Slim → Row
row_of rest currency numbers slim = record {
  day = slim.day;
  kind = slim.kind;
  currency = currency;
  payoff = numbers.payoff;
  state = record {
    sd = if slim.has_sd then Some slim.sd else None;
    md = rest.md;
    xd = rest.xd;
    nt = numbers.nt;
    ipnr = numbers.ipnr;
    ipac = numbers.ipac;
    ipnr2 = rest.ipnr2;
    ipac2 = rest.ipac2;
    feac = numbers.feac;
    nsc = rest.nsc;
    isc = rest.isc;
    ipcb = numbers.ipcb;
    prnxt = rest.prnxt;
    xa = rest.xa;
  };
}

-- ---- how many of each rows need

-- what a row shares stands among the first, so many of each; its numbers do where they don't stand in it
pub record FitsIn (counts : Counts) (slim : Slim) : Type 0 where
  pub rest : slim.rest < counts.rests
  pub level : slim.level < counts.levels
  pub long : slim.long ≤ counts.long

-- there are at least as many of each
pub record IsAtMost (few many : Counts) : Type 0 where
  pub rests : few.rests ≤ many.rests
  pub levels : few.levels ≤ many.levels
  pub long : few.long ≤ many.long

-- how many of each there are
abbrev pub counts_of : Shared → Counts
counts_of shared = record {
  rests = length shared.rests.items;
  levels = length shared.levels.items;
  long = length shared.long.items;
}

-- what a row shares is there
abbrev pub HasParts : Shared → Slim → Type 0
HasParts shared slim = FitsIn (counts_of shared) slim

-- ---- a row with what it shares

-- the rest of one that has none
abbrev pub no_rest : Rest
no_rest = record { md = None; xd = None; ipnr2 = pos 0; ipac2 = pos 0; nsc = pos 0; isc = pos 0; prnxt = pos 0; xa = pos 0 }

-- the level of one that has none
abbrev pub no_level : Level
no_level = record { nt = pos 0; ipnr = pos 0; feac = pos 0; ipcb = pos 0; currency = 0 }

-- the numbers of one that has none
abbrev pub no_numbers : Numbers
no_numbers = record { payoff = pos 0; nt = pos 0; ipnr = pos 0; ipac = pos 0; feac = pos 0; ipcb = pos 0 }

-- a row's level
abbrev pub level_at : Shared → Slim → Level
level_at shared slim = get_or shared.levels.items slim.level no_level

-- a row's numbers: its own short ones, or those at its place among longer ones, counted from 1
abbrev pub full_numbers : Shared → Slim → Numbers
full_numbers shared slim = get_or (numbers_in (short_of (level_at shared slim) slim) ∷ shared.long.items) slim.long no_numbers

-- a row with its own rest, currency and numbers among what is shared
abbrev pub full_row : Shared → Slim → Row
full_row shared slim =
    row_of (get_or shared.rests.items slim.rest no_rest) (level_at shared slim).currency (full_numbers shared slim) slim

-- ---- what is there stays

-- a list, and maybe more behind it
abbrev pub BeginsWith : {X : Type 0} → List X → List X → Type 0
BeginsWith {X} xs front = (more : List X) × (xs ≡ front ++ more)

-- of each, what was shared before is there at its place
pub record StaysIn (before after : Shared) : Type 0 where
  pub rests : BeginsWith after.rests.items before.rests.items
  pub levels : BeginsWith after.levels.items before.levels.items
  pub long : BeginsWith after.long.items before.long.items

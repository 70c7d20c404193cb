-- The evaluation of a contract that is handed out. This profile's own.
use Rattle.std.specs.Prelude.{ℕ, ℤ, List, Option, length}
use Rattle.act_model.specs.Run.{Stream}
use Rattle.act_model.specs.declared.observed.Obs.{Obs}
use Rattle.act_accepted.specs.Accepted.{Accepted}
use Rattle.act_profile.specs.Kept.{KeptRows}
use Rattle.act_profile.specs.Run.{run_of}

-- which portfolio it is of, which contract, and over which entries; and what it keeps of a run at another version, and under which cut
pub record Work : Type 0 where
  pub portfolio : Accepted
  pub contract : ℕ
  pub entries : List Obs
  pub kept : KeptRows
  pub cut : Option ℤ

-- how many entries
abbrev pub version : Work → ℕ
version work = length work.entries

-- what comes of it: the contract's run from inception, children first
abbrev pub outcome : Work → Stream
outcome work = run_of work.portfolio.contracts work.entries work.contract

-- The threads of a round.
use Rattle.std.specs.Prelude.{ℕ, ◌≤◌}
use Rattle.cases_desks.specs.declared.waking.Crew.{Crew}

-- as many callers and workers as a desk may have
pub record IsCrew (crew : Crew) : Type 0 where
  pub some : 1 ≤ crew.callers
  pub few : crew.callers ≤ 16
  pub few_workers : crew.workers ≤ 64

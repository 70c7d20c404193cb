-- What clauses on the pass over the entries say.
use Rattle.std.specs.Prelude.{ℤ, int_lt, if◌then◌else◌, Option, Some, None}

-- the latest rate, a day and a value, once there is a next one: the next, unless its day is before
abbrev pub later : Option (ℤ × ℤ) → Option (ℤ × ℤ) → Option (ℤ × ℤ)
later latest None = latest
later None (Some next) = Some next
later (Some latest) (Some next) = Some (if int_lt next.0 latest.0 then latest else next)

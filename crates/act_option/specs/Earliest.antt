-- What clauses on the pass over an option's entries say.
use Rattle.std.specs.Prelude.{ℤ, Bool, if◌then◌else◌, Option, Some, None}
use Rattle.std.specs.Int.{int_min}

-- the earlier of two days, as far as they are there
abbrev pub earlier : Option ℤ → Option ℤ → Option ℤ
earlier first None = first
earlier None (Some next) = Some next
earlier (Some first) (Some next) = Some (int_min first next)

-- a day, where it passes a test
abbrev pub where_kept : (ℤ → Bool) → Option ℤ → Option ℤ
where_kept test None = None
where_kept test (Some day) = if test day then Some day else None

-- What clauses on the interest dates of a NAM or an ANN say.
use Rattle.std.specs.Prelude.{ℤ, List, Option}
use Rattle.act_profile.specs.Dates.{after, united}

-- dates with those of others that come after a day, where one is given, each day once
abbrev pub with_later : Option ℤ → List ℤ → List ℤ → List ℤ
with_later day others dates = united dates (after day others)

use Rattle.std.proofs.Common.{◌≡◌, int_lt, take}
use Rattle.std.specs.List.{filter}
use Rattle.cases_runs.proofs.same.rows_before.Given as goal

abbrev pub invariant-rows : goal.invariant-rows
invariant-rows l = l.rows ≡ filter (λ row. int_lt row.day l.day) (take l.place l.run.rows)

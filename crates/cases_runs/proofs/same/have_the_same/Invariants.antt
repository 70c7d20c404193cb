use Rattle.std.proofs.Common.{◌≡◌, take}
use Rattle.cases_runs.proofs.same.have_the_same.Given as goal

abbrev pub invariant-rows : goal.invariant-rows
invariant-rows l = take l.place l.one ≡ take l.place l.other

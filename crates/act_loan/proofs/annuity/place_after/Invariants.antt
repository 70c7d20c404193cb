use Rattle.std.proofs.Common.{◌≡◌, drop}
use Rattle.act_profile.specs.Loan.{days_after}
use Rattle.act_loan.proofs.annuity.place_after.Given as goal

-- none of the days so far is after the day
abbrev pub invariant-loop-place : goal.invariant-loop-place
invariant-loop-place l = days_after l.day (drop l.place l.days) ≡ days_after l.day l.days

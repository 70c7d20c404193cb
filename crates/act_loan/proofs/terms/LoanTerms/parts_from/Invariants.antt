use Rattle.std.proofs.Common.{◌≡◌, ◌++◌, drop}
use Rattle.act_profile.specs.LoanPlan.{parts_from}
use Rattle.act_loan.proofs.terms.LoanTerms.parts_from.Given as goal

-- the parts so far, and those that are left
abbrev pub invariant-days : goal.invariant-days
invariant-days l = parts_from l.self l.fn.first l.later ≡ l.parts.items ++ parts_from l.self l.previous (drop l.day-index l.later)

use Rattle.act_gen.proofs.Loops.{HasLoans}
use Rattle.act_gen.proofs.portfolio.push_loans.Given as goal

abbrev pub invariant-loans : goal.invariant-loans
invariant-loans l = HasLoans l.n l.before l.initial.text.items l.text.items l.draws.state

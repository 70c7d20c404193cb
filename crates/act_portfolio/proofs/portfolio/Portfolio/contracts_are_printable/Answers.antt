use Rattle.act_portfolio.proofs.portfolio.Portfolio.contracts_are_printable.Goals as goal

pub returns-clause-printable : goal.returns-clause-printable
returns-clause-printable c = rw (← c.self.view_is) c.self.invariant.accepted.printable

pub returns-clause-no_star : goal.returns-clause-no_star
returns-clause-no_star c = rw (← c.self.view_is) c.self.invariant.accepted.no_star

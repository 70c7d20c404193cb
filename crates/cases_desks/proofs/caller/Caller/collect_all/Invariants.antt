use Rattle.cases_desks.specs.Caller.{Plays}
use Rattle.cases_desks.proofs.caller.Caller.collect_all.Given as goal

abbrev pub invariant-loop : goal.invariant-loop
invariant-loop g l = Plays l.at.desk.now l.pass l.self.number l.self.open_asks

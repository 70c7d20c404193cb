use Rattle.cases_desks.specs.Caller.{Plays}
use Rattle.cases_desks.proofs.drive.call.Given as goal

abbrev pub invariant-loop : goal.invariant-loop
invariant-loop g l = Plays l.at.desk.now l.pass l.caller.number l.caller.open_asks

use Rattle.act_top.proofs.top.go_alone.Goals as goal

pub returns-in-Check-clause-gone : goal.returns-in-Check-clause-gone
returns-in-Check-clause-gone g c = rw c.in-Check.is (c.run_check.ensures.gone c.args.steps.now)

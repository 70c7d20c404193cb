use Rattle.std.proofs.Common.{[]}
use Rattle.act_option.proofs.Exercised.{accrual_of_future, accrual_of_option, line_of_future, line_of_option, step_of_exercised}
use Rattle.act_option.proofs.calls.step.Goals as goal

pub returns-in-OPTNS : goal.returns-in-OPTNS
returns-in-OPTNS g c =
    let terms = c.args.terms.now in
    let plan = c.args.plan.now in
    let event = c.args.event.now in
    let line = line_of_option terms plan event c.in-OPTNS.optns c.new-table.result c.in-OPTNS.is c.new-table.ensures in
    let accrual = accrual_of_option terms plan event c.in-OPTNS.optns c.new-table.result c.in-OPTNS.is c.new-table.ensures in
    rw (← step_of_exercised terms plan (g.O.Observed.entries c.args.seen.now) c.args.state.now event c.requires) (c.take_step.ensures [] line accrual)

pub returns-in-FUTUR : goal.returns-in-FUTUR
returns-in-FUTUR g c =
    let terms = c.args.terms.now in
    let plan = c.args.plan.now in
    let event = c.args.event.now in
    let line = line_of_future terms plan event c.in-FUTUR.futur c.new-table-in-FUTUR.result c.in-FUTUR.is c.new-table-in-FUTUR.ensures in
    let accrual = accrual_of_future terms plan event c.in-FUTUR.futur c.new-table-in-FUTUR.result c.in-FUTUR.is c.new-table-in-FUTUR.ensures in
    rw (← step_of_exercised terms plan (g.O.Observed.entries c.args.seen.now) c.args.state.now event c.requires) (c.take_step-in-FUTUR.ensures [] line accrual)

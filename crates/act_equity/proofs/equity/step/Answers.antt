use Rattle.std.proofs.Common.{[]}
use Rattle.act_equity.proofs.Contracts.{accrual_of_table, line_of_outright, line_of_stock, step_of_either}
use Rattle.act_equity.proofs.equity.step.Goals as goal

pub returns-in-STK : goal.returns-in-STK
returns-in-STK g c =
    let terms = c.args.terms.now in
    let plan = c.args.plan.now in
    let event = c.args.event.now in
    let line = line_of_stock terms plan event _ c.new-stock.result c.in-STK.is c.new-stock.ensures in
    rw (← step_of_either terms plan (g.O.Observed.entries c.args.seen.now) c.args.state.now event c.requires) (c.take_step.ensures [] line (accrual_of_table terms event c.requires))

pub returns-in-FXOUT : goal.returns-in-FXOUT
returns-in-FXOUT g c =
    let terms = c.args.terms.now in
    let plan = c.args.plan.now in
    let event = c.args.event.now in
    let line = line_of_outright terms plan event _ c.new-outright.result c.in-FXOUT.is c.new-outright.ensures in
    rw (← step_of_either terms plan (g.O.Observed.entries c.args.seen.now) c.args.state.now event c.requires) (c.take_step-in-FXOUT.ensures [] line (accrual_of_table terms event c.requires))

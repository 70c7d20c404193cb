use Rattle.std.proofs.Common.{[], ap}
use Rattle.act_model.specs.Run.{EventPlan}
use Rattle.act_loan.proofs.Contracts.{accrual_of_table, line_of_table, step_of_loan}
use Rattle.act_loan.proofs.steps.advance_loan.Goals as goal

pub returns : goal.returns
returns g c =
    let terms = c.args.terms.now in
    let plan = c.args.plan.now in
    let event = c.args.event.now in
    let table = c.args.table.now in
    let parts = ap (λ (p : EventPlan). (table.0, p)) c.requires.planned in
    let line = line_of_table terms plan event table.0 table c.requires.loan parts in
    let accrual = accrual_of_table terms plan event table.0 table c.requires.loan parts in
    rw (← step_of_loan terms plan (g.O.Observed.entries c.args.seen.now) c.args.state.now event table.0 c.requires.loan) (c.advance.ensures [] line accrual)

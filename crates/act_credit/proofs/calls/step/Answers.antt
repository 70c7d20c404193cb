use Rattle.std.proofs.Common.{map}
use Rattle.std.specs.Arc.{arc_value}
use Rattle.act_credit.proofs.CodesRead.{step_of_credit}
use Rattle.act_credit.proofs.Contracts.{accrual_of_table, line_of_table, step_of_other}
use Rattle.act_credit.proofs.calls.step.Goals as goal

pub returns-in-XD : goal.returns-in-XD
returns-in-XD g c =
    let takes = rw c.credit_amount-amount.ensures at c.step_by_amount.ensures in
    rw (← step_of_credit c.args.terms.now c.args.plan.now (g.O.Observed.entries c.args.seen.now) (map arc_value c.args.children.now) c.args.state.now c.args.event.now c.in-XD.is c.requires) takes

pub returns-in_default : goal.returns-in_default
returns-in_default g c =
    let terms = c.args.terms.now in
    let plan = c.args.plan.now in
    let event = c.args.event.now in
    let children = map arc_value c.args.children.now in
    let line = line_of_table terms plan children event c.new-table.result c.requires c.new-table.ensures in
    rw (← step_of_other terms plan (g.O.Observed.entries c.args.seen.now) children c.args.state.now event c.in_default.not-XD) (c.take_step.ensures children line (accrual_of_table terms event c.requires))

use Rattle.std.proofs.Common.{map, subst}
use Rattle.std.specs.Arc.{arc_value}
use Rattle.act_kind.specs.Takes.{Takes, with_state}
use Rattle.act_contract.proofs.Childless.{loan, step_of-childless}
use Rattle.act_contract.proofs.contract.advance.Goals as goal

pub returns-in-Some : goal.returns-in-Some
returns-in-Some g c =
    let terms = c.args.terms.now in
    let table = c.in-Some.table in
    let is = rw c.in-Some.is at c.requires.table in
    subst (λ taken. Takes (with_state c.advance_loan.new.state c.advance_loan.result) taken c.args.steps.now c.advance_loan.new.steps)
    (step_of-childless terms c.args.plan.now (g.O.Observed.entries c.args.seen.now) (map arc_value c.args.children.now) c.args.state.now c.args.event.now (loan terms.common terms.kind table.0 is.loan))
    c.advance_loan.ensures

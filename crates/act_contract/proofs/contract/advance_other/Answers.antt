use Rattle.std.proofs.Common.{map, refl, subst}
use Rattle.std.specs.Arc.{arc_value}
use Rattle.act_model.specs.Kind.{type_of}
use Rattle.act_kind.specs.Takes.{Takes}
use Rattle.act_contract.proofs.Childless.{equity, exercised, step_of-childless}
use Rattle.act_contract.proofs.contract.advance_other.Goals as goal

pub returns-in-Equity : goal.returns-in-Equity
returns-in-Equity g c =
    let terms = c.args.terms.now in
    rw c.put_in_place.ensures
    (subst (λ taken. Takes c.step.result taken c.args.steps.now c.step.new.steps)
    (step_of-childless terms c.args.plan.now (g.O.Observed.entries c.args.seen.now) (map arc_value c.args.children.now) c.args.state.now c.args.event.now (equity (type_of terms.kind) (c.in-Equity.ensures.equity refl)))
    c.step.ensures)

pub returns-in-Option : goal.returns-in-Option
returns-in-Option g c =
    let terms = c.args.terms.now in
    rw c.put_in_place-in-Option.ensures
    (subst (λ taken. Takes c.step-in-Option.result taken c.args.steps.now c.step-in-Option.new.steps)
    (step_of-childless terms c.args.plan.now (g.O.Observed.entries c.args.seen.now) (map arc_value c.args.children.now) c.args.state.now c.args.event.now (exercised (type_of terms.kind) (c.in-Option.ensures.option refl)))
    c.step-in-Option.ensures)

pub returns-in-Credit : goal.returns-in-Credit
returns-in-Credit g c = rw c.put_in_place-in-Credit.ensures c.step-in-Credit.ensures

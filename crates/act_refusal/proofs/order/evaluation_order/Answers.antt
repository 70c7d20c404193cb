use Rattle.std.proofs.Common.{Err, ap, sym, codes, ◌∙◌, add-one, arith}
use Rattle.std.proofs.lemmas.Option.{IfSome_then}
use Rattle.act_refs.specs.Ordered.{order_of}
use Rattle.act_refs.proofs.Paths.{length-child_lists}
use Rattle.act_refusal.specs.Steps.{refused_order}
use Rattle.act_refusal.specs.Refusal.{in_cycle, refusal_of, refusing}
use Rattle.act_refusal.proofs.Disordered.{cycle_exists, deep_exists, lists_are}
use Rattle.act_refusal.proofs.order.evaluation_order.Goals as goal

pub refused_cycle-requires-clause-place : goal.refused_cycle-requires-clause-place
refused_cycle-requires-clause-place c =
    let cycle = (rw c.in-Err-Cycle.field-0-is at c.in-Err-Cycle.ensures).cycle in
    let few = c.requires.few in
    rw c.deref.ensures.value (omega (arith, cycle_exists _ _ cycle, length-child_lists c.args.children.now))

pub overflow_add-contract : goal.overflow_add-contract
overflow_add-contract c =
    let deep = (rw c.in-Err-TooDeep.field-0-is at c.in-Err-TooDeep.ensures).too_deep in
    let few = c.requires.few in
    omega (arith, deep_exists _ _ deep, length-child_lists c.args.children.now)

pub returns-in-Ok-clause-order : goal.returns-in-Ok-clause-order
returns-in-Ok-clause-order c = ap order_of (sym (lists_are c.args.children.now)) ∙ c.in-Ok.ensures.ordered_as

pub returns-in-Err-Cycle-clause-refused : goal.returns-in-Err-Cycle-clause-refused
returns-in-Err-Cycle-clause-refused c =
    let disorder = ap order_of (sym (lists_are c.args.children.now)) ∙ (rw c.in-Err-Cycle.field-0-is at c.in-Err-Cycle.ensures).cycle_as in
    let ids = c.args.names.now.contracts in
    IfSome_then (refusal_of c.refused_cycle.result) c.refused_cycle.ensures (λ refusal is.
    ap (refusing (refused_order ids)) disorder ∙ ap Err (sym (is ∙ ap (in_cycle ids) c.deref.ensures.value)))

pub returns-in-Err-TooDeep-clause-refused : goal.returns-in-Err-TooDeep-clause-refused
returns-in-Err-TooDeep-clause-refused c =
    let disorder = ap order_of (sym (lists_are c.args.children.now)) ∙ (rw c.in-Err-TooDeep.field-0-is at c.in-Err-TooDeep.ensures).too_deep_as in
    IfSome_then (refusal_of c.refused.result) c.refused.ensures (λ refusal is.
    ap (refusing (refused_order c.args.names.now.contracts)) disorder
    ∙ ap Err (sym (is ∙ ap (λ place. record { number = 23; place = place; what = codes "-" }) (add-one c.in-Err-TooDeep.contract))))

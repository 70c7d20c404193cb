use Rattle.std.proofs.Common.{◌≡◌, ◌-◌, length, take, drop, length-drop, Some, None, sym, ap, subst, ◌∙◌, arith}
use Rattle.std.proofs.lemmas.List.{take_all}
use Rattle.std.specs.List.{find}
use Rattle.act_model.specs.Run.{EventPlan}
use Rattle.act_profile.specs.Order.{ends, up_to_end}
use Rattle.act_kind.proofs.PlannedEnd.{found_among, none_ends, up_to_first}
use Rattle.act_kind.proofs.order.count_to_planned_end.Goals as goal

pub returns-in-Some-clause-taken : goal.returns-in-Some-clause-taken
returns-in-Some-clause-taken c =
    let events = c.args.plan.now.events in
    let kind = c.args.kind.now in
    let end = c.in-Some.end in
    let k = c.count_preceding-before.result in
    let r = c.count_to_end.result in
    let same = ap (λ (p : EventPlan). p.events) c.plan.view_is in
    let value : c.deref.result.now ≡ events = c.deref.ensures.value ∙ same in
    let behind = c.deref-in-Some.result.now in
    let value' : behind ≡ events = c.deref-in-Some.ensures.value ∙ same in
    let found : find (ends kind) events ≡ Some end = sym (found_among kind events) ∙ ap (find (ends kind)) (sym c.ends.ensures) ∙ sym c.in-Some.ensures in
    let rest : take (length behind - k) (drop k behind) ≡ drop k events = take_all (length behind - k) (drop k behind) (omega (arith, length-drop k behind)) ∙ ap (drop k) value' in
    let taken = subst (λ left. take r left ≡ up_to_end kind left) rest c.count_to_end.ensures.taken in
    let before = rw value at c.count_preceding-before.ensures.before in
    up_to_first kind events end k r before (omega (arith, c.count_preceding-before.ensures.within, ap length value)) found taken

pub returns-in-None-clause-taken : goal.returns-in-None-clause-taken
returns-in-None-clause-taken c =
    let events = c.args.plan.now.events in
    let kind = c.args.kind.now in
    let same = ap (λ (p : EventPlan). p.events) c.plan.view_is in
    let none : find (ends kind) events ≡ None = sym (found_among kind events) ∙ ap (find (ends kind)) (sym c.ends.ensures) ∙ sym c.in-None.ensures in
    take_all c.len.result events (omega (arith, c.len.ensures, ap length same)) ∙ sym (none_ends kind events none)

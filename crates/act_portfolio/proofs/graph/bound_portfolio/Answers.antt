use Rattle.std.proofs.Common.{◌≡◌, ℕ, Err, IfSome, ap, arith, length, map, rules, string_bytes, subst, sym, zero, ◌∙◌}
use Rattle.std.proofs.lemmas.List.{length-map}
use Rattle.std.proofs.lemmas.Option.{IfSome_then}
use Rattle.act_binding.specs.Binding.{with_shadows}
use Rattle.act_cones.specs.Cones.{AreRanks}
use Rattle.act_refusal.specs.Steps.{plans_from}
use Rattle.act_refusal.specs.Refusal.{refusal_of}
use Rattle.act_cones.proofs.Orders.{order_counted}
use Rattle.act_portfolio.proofs.Finished.{few_all, few_lists, have_plans, have_plans_named, is_finished, is_kept, many_numbers, shadows_are_built, with_their_shadows}
use Rattle.act_portfolio.proofs.graph.bound_portfolio.Goals as goal

pub plans_of-requires-clause-built : goal.plans_of-requires-clause-built
plans_of-requires-clause-built c = rw c.deref-2.ensures.value (shadows_are_built _ _ _ _ _ c.requires.graph c.requires.contracts c.requires.few)

pub plans_of-requires-clause-few : goal.plans_of-requires-clause-few
plans_of-requires-clause-few c = rw (c.deref.ensures.value, c.deref-2.ensures.value) (few_all _ _ _ _ _ c.requires.graph c.requires.contracts c.requires.few)

pub returns-in_err-plans-clause-refused : goal.returns-in_err-plans-clause-refused
returns-in_err-plans-clause-refused c =
    let same = with_their_shadows _ _ _ _ _ c.requires.graph c.requires.contracts c.requires.few in
    let whole : IfSome (refusal_of c.in_err-plans.field-0.0) (λ refusal. plans_from zero (with_shadows c.args.named.items) ≡ Err refusal) =
    IfSome_then (refusal_of c.in_err-plans.field-0.0) (rw (c.deref.ensures.value, c.deref-2.ensures.value) at c.in_err-plans.ensures.refused) (λ refusal is. ap (plans_from zero) same ∙ is) in
    search rules

pub terms_of-requires-clause-planned : goal.terms_of-requires-clause-planned
terms_of-requires-clause-planned c =
    rw c.deref-4.ensures.value (have_plans_named _ _ _ _ _ c.requires.graph c.requires.contracts c.requires.few c.in_ok-plans.plans.items (rw (c.deref.ensures.value, c.deref-2.ensures.value) at c.in_ok-plans.ensures.plans))

pub terms_of-requires-clause-numbers : goal.terms_of-requires-clause-numbers
terms_of-requires-clause-numbers c = ap length c.deref-3.ensures.value ∙ many_numbers _ _ _ _ _ c.requires.graph c.requires.contracts c.requires.few

pub ranks-requires-clause-few : goal.ranks-requires-clause-few
ranks-requires-clause-few c =
    let few = few_lists _ _ _ _ _ c.requires.graph c.requires.contracts c.requires.few in
    rw c.deref-8.ensures.value (omega (arith, order_counted _ _ c.requires.graph.ordered))

pub all_cones-requires-clause-planned : goal.all_cones-requires-clause-planned
all_cones-requires-clause-planned c =
    rw (c.deref-9.ensures.value, c.deref-10.ensures.value)
    (have_plans _ _ _ _ _ c.requires.graph c.requires.contracts c.requires.few c.in_ok-plans.plans.items (rw (c.deref.ensures.value, c.deref-2.ensures.value) at c.in_ok-plans.ensures.plans) c.in_ok-terms.terms.items
    (rw (c.deref-3.ensures.value, c.deref-4.ensures.value) at c.in_ok-terms.ensures))

pub invariant_of-result : goal.invariant_of-result
invariant_of-result c =
    let lists = c.args.graph.children.items in
    is_kept _ _ _ _ _ c.requires.graph c.requires.contracts c.requires.few c.in_ok-plans.plans.items (rw (c.deref.ensures.value, c.deref-2.ensures.value) at c.in_ok-plans.ensures.plans) c.in_ok-terms.terms.items
    (rw (c.deref-3.ensures.value, c.deref-4.ensures.value) at c.in_ok-terms.ensures) c.args.names (map (λ u. map string_bytes u.items) c.args.unused.items) c.requires.names (length-map c.args.unused.items (λ u. map string_bytes u.items) ∙ c.requires.unused)
    c.requires.fit c.requires.numbered c.requires.named (rw c.deref-5.ensures.value at c.are_bounded.ensures) (rw c.deref-6.ensures.value at c.are_dated.ensures) _ _ _ _ (subst (λ (m : ℕ). AreRanks m c.args.graph.order.items c.in_ok-ranks.ranks.items) (sym (length-map lists (λ l. l.items))) (rw (c.deref-7.ensures.value, c.deref-8.ensures.value) at c.in_ok-ranks.ensures))
    (rw (c.deref-9.ensures.value, c.deref-10.ensures.value, c.deref-11.ensures.value) at c.in_ok-cones.ensures)

pub returns-clause-accepted : goal.returns-clause-accepted
returns-clause-accepted c =
    is_finished _ _ _ _ _ c.requires.graph c.requires.contracts c.requires.few c.in_ok-plans.plans.items (rw (c.deref.ensures.value, c.deref-2.ensures.value) at c.in_ok-plans.ensures.plans) c.in_ok-terms.terms.items
    (rw (c.deref-3.ensures.value, c.deref-4.ensures.value) at c.in_ok-terms.ensures) c.args.names (map (λ u. map string_bytes u.items) c.args.unused.items) c.requires.names (length-map c.args.unused.items (λ u. map string_bytes u.items) ∙ c.requires.unused)

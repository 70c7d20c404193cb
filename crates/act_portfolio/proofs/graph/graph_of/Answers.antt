use Rattle.std.proofs.Common.{◌≡◌, ℕ, Err, IfSome, ap, arith, length, map, rules, subst, sym, ◌∙◌}
use Rattle.std.proofs.lemmas.List.{length-map}
use Rattle.std.proofs.lemmas.Option.{IfSome_then}
use Rattle.act_refs.specs.Ordered.{order_of}
use Rattle.std.specs.List.{All}
use Rattle.act_binding.specs.Binding.{children_with_shadows}
use Rattle.act_portfolio.specs.Reading.{ordered}
use Rattle.act_refusal.specs.Steps.{refused_order}
use Rattle.act_refusal.specs.Refusal.{refusal_of, refusing}
use Rattle.act_binding.proofs.Graphed.{AreWithin, as_many, of_lists, related}
use Rattle.act_portfolio.proofs.Fitted.{all_fit}
use Rattle.act_binding.proofs.Shadowed.{as_many_numbers}
use Rattle.act_portfolio.proofs.graph.graph_of.Goals as goal

pub shadow_numbers-requires : goal.shadow_numbers-requires
shadow_numbers-requires c =
    let few = c.requires.few in
    record { few = omega (arith, as_many c.new-listing.result 0 c.args.named.now (rw (← c.new-listing.ensures) at (all_fit c.args.named.now c.requires.fit))) }

pub shadows-requires : goal.shadows-requires
shadows-requires c = record { numbers = ap length (c.deref.ensures.value ∙ c.in_ok-numbers.ensures) ∙ as_many_numbers _ c.args.named.now }

pub child_lists-requires : goal.child_lists-requires
child_lists-requires c = record { numbers = ap length (c.deref-2.ensures.value ∙ c.in_ok-numbers.ensures) ∙ as_many_numbers _ c.args.named.now }

pub evaluation_order-requires-clause-children_exist : goal.evaluation_order-requires-clause-children_exist
evaluation_order-requires-clause-children_exist c =
    let lists = c.in_ok-children.children.items in
    let all = related c.args.named.now c.new-listing.result _ _ _ _ _ _ (all_fit c.args.named.now c.requires.fit) c.new-listing.ensures c.in_ok-numbers.ensures c.deref.ensures.value c.deref-2.ensures.value c.in_ok-shadows.ensures c.deref-3.ensures.value c.in_ok-children.ensures in
    let exist = subst (λ (m : ℕ). All (AreWithin m) (map (λ l. l.items) lists)) (length-map lists (λ l. l.items)) all.exist in
    rw c.deref-4.ensures.value (of_lists (length lists) lists exist)

pub evaluation_order-requires-clause-few : goal.evaluation_order-requires-clause-few
evaluation_order-requires-clause-few c =
    let all = related c.args.named.now c.new-listing.result _ _ _ _ _ _ (all_fit c.args.named.now c.requires.fit) c.new-listing.ensures c.in_ok-numbers.ensures c.deref.ensures.value c.deref-2.ensures.value c.in_ok-shadows.ensures c.deref-3.ensures.value c.in_ok-children.ensures in
    let few = all.few in
    let most = c.requires.few in
    rw c.deref-4.ensures.value (omega (arith, length-map c.in_ok-children.children.items (λ l. l.items)))

pub returns-in_err-order-clause-refused : goal.returns-in_err-order-clause-refused
returns-in_err-order-clause-refused c =
    let named = c.args.named.now in
    let all = related named c.new-listing.result _ _ _ _ _ _ (all_fit c.args.named.now c.requires.fit) c.new-listing.ensures c.in_ok-numbers.ensures c.deref.ensures.value c.deref-2.ensures.value c.in_ok-shadows.ensures c.deref-3.ensures.value c.in_ok-children.ensures in
    let same : order_of (map (λ l. l.items) c.deref-4.result.now) ≡ order_of (children_with_shadows named) = ap (λ ls. order_of (map (λ l. l.items) ls)) c.deref-4.ensures.value ∙ ap order_of all.children in
    let step = ap (λ ids. refusing (refused_order ids) (order_of (map (λ l. l.items) c.deref-4.result.now))) c.requires.names ∙ ap (refusing (refused_order (map (λ n. n.id) named))) same in
    let whole : IfSome (refusal_of c.in_err-order.field-0.0) (λ refusal. ordered named ≡ Err refusal) = IfSome_then (refusal_of c.in_err-order.field-0.0) c.in_err-order.ensures.refused (λ refusal is. sym step ∙ is) in
    search rules

pub returns-clause-graph : goal.returns-clause-graph
returns-clause-graph c =
    let all = related c.args.named.now c.new-listing.result _ _ _ _ _ _ (all_fit c.args.named.now c.requires.fit) c.new-listing.ensures c.in_ok-numbers.ensures c.deref.ensures.value c.deref-2.ensures.value c.in_ok-shadows.ensures c.deref-3.ensures.value c.in_ok-children.ensures in
    record {
      numbers = c.in_ok-numbers.ensures;
      shadows = rw (← c.new-listing.ensures, ← c.deref.ensures.value) c.in_ok-shadows.ensures;
      children = all.children;
      exist = all.exist;
      ordered = rw (← c.deref-4.ensures.value) c.in_ok-order.ensures.order;
      count = all.count;
      few = all.few;
    }

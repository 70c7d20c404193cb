use Rattle.std.proofs.Common.{refl, sym, ◌∙◌}
use Rattle.json.specs.Value.{value_view}
use Rattle.act_json.specs.Tree.{has_number}
use Rattle.act_json.proofs.Trees.{all_fail, in_items, in_members, this_fails, this_passes}
use Rattle.act_json.proofs.tree.+has_number.Goals as goal

pub items_have_number-returns-then-has_number : goal.items_have_number-returns-then-has_number
items_have_number-returns-then-has_number t c =
    this_passes in_items (λ v. has_number (value_view v)) (λ v vs. refl) c.args.items.now c.loop-item.item-index c.item-item.result c.loop-item-test.true c.item-item.is
    (sym c.has_number.ensures ∙ c.if-has_number.true) c.loop-item.invariant

pub items_have_number-loop-item-preserved : goal.items_have_number-loop-item-preserved
items_have_number-loop-item-preserved t c =
    this_fails in_items (λ v. has_number (value_view v)) (λ v vs. refl) c.args.items.now c.loop-item.item-index c.item-item.result c.loop-item-test.true c.item-item.is
    (sym c.has_number.ensures ∙ c.if-has_number.false) c.loop-item.invariant

pub items_have_number-returns : goal.items_have_number-returns
items_have_number-returns t c =
    all_fail in_items (λ v. has_number (value_view v)) (λ v vs. refl) refl c.args.items.now c.loop-item.item-index c.loop-item.auto.item-index-end c.loop-item-test.false c.loop-item.invariant

pub members_have_number-returns-then-has_number : goal.members_have_number-returns-then-has_number
members_have_number-returns-then-has_number t c =
    this_passes in_members (λ m. has_number (value_view m.1)) (λ m ms. refl) c.args.members.now c.loop-value.value-index c.loop-value-item.result c.loop-value-test.true c.loop-value-item.is
    (sym c.has_number.ensures ∙ c.if-has_number.true) c.loop-value.invariant

pub members_have_number-loop-value-preserved : goal.members_have_number-loop-value-preserved
members_have_number-loop-value-preserved t c =
    this_fails in_members (λ m. has_number (value_view m.1)) (λ m ms. refl) c.args.members.now c.loop-value.value-index c.loop-value-item.result c.loop-value-test.true c.loop-value-item.is
    (sym c.has_number.ensures ∙ c.if-has_number.false) c.loop-value.invariant

pub members_have_number-returns : goal.members_have_number-returns
members_have_number-returns t c =
    all_fail in_members (λ m. has_number (value_view m.1)) (λ m ms. refl) refl c.args.members.now c.loop-value.value-index c.loop-value.auto.value-index-end c.loop-value-test.false
    c.loop-value.invariant

use Rattle.std.proofs.Common.{◌≡◌, ◌≤◌, ◌-◌, ◌+◌, arith, get_or, length, List, Option, None, Some, MatchOption, Vec, Global, ap, subst, sym, refl, ◌∙◌}
use Rattle.std.specs.Option.{option_and_then}
use Rattle.std.specs.List.{slice_get}
use Rattle.std.proofs.lemmas.List.{length-map, length-set}
use Rattle.std.proofs.lemmas.Option.{slice_get_read}
use Rattle.act_audit.proofs.Orders.{all-made, few-made, made-more, order-more, some-short}
use Rattle.act_audit.specs.Order.{next_step}
use Rattle.act_audit.specs.declared.order.Disorder.{Disorder}
use Rattle.act_audit.proofs.order.first_disorder.Goals as goal
use Rattle.act_model.specs.declared.journal.Item.{Item}
use Rattle.act_model.specs.declared.journal.Line.{Line}
use Rattle.act_script.specs.Asks.{line_lists}
use Rattle.act_session.specs.Interleaving.{steps_of}

pub overflow_add-made : goal.overflow_add-made
overflow_add-made c =
    let item = c.index-items-place.result in
    let items = c.args.items.now in
    let from : 1 ≤ item.caller = subst (λ (i : Item). 1 ≤ i.caller) (sym c.index-items-place.is) (c.requires.from_one c.loop-place.place item c.loop-place-test.true) in
    let to : item.caller ≤ 16 = subst (λ (i : Item). i.caller ≤ 16) (sym c.index-items-place.is) (c.requires.to_most c.loop-place.place item c.loop-place-test.true) in
    omega (arith, c.loop-place.invariant.made item.caller from to, few-made item.caller c.loop-place.place items, c.requires.few)

pub loop-place-preserved : goal.loop-place-preserved
loop-place-preserved c =
    let item = c.index-items-place.result in
    let items = c.args.items.now in
    let scripts = line_lists c.args.scripts.now in
    let k = c.loop-place.place in
    let from : 1 ≤ item.caller = subst (λ (i : Item). 1 ≤ i.caller) (sym c.index-items-place.is) (c.requires.from_one k item c.loop-place-test.true) in
    let to : item.caller ≤ 16 = subst (λ (i : Item). i.caller ≤ 16) (sym c.index-items-place.is) (c.requires.to_most k item c.loop-place-test.true) in
    let there : slice_get items k ≡ Some item = slice_get_read items (length items) k item refl c.loop-place-test.true c.index-items-place.is in
    let found = c.is_step.ensures.0 c.if-not-is_step.false in
    let next : next_step scripts items k item.caller ≡ Some item.step =
    ap (λ (n : _). option_and_then (λ (lines : List Line). slice_get (steps_of lines) n) (slice_get scripts (item.caller - 1))) (sym (c.loop-place.invariant.made item.caller from to)) ∙ (sym c.step_at.ensures ∙ found) in
    record {
      size = length-set c.loop-place.made (item.caller - 1) (get_or c.loop-place.made (item.caller - 1) 0 + 1) ∙ c.loop-place.invariant.size;
      made = made-more c.loop-place.made items k item c.loop-place.invariant.size from to there c.loop-place.invariant.made;
      before = order-more scripts items k item there next c.loop-place.invariant.before;
    }

by-end : (result : Option Disorder) (N I : Type 0) (S D : Disorder → Type 0) → (N → I) → ((disorder : Disorder) → S disorder → D disorder) → MatchOption result N S → MatchOption result I D
by-end None N I S D none some is = none is
by-end (Some disorder) N I S D none some is = some disorder is

pub returns : goal.returns
returns c =
    let items = c.args.items.now in
    let scripts = line_lists c.args.scripts.now in
    let k = c.loop-place.place in
    let end : k ≡ length items = omega (arith, c.loop-place.auto.place-end, c.loop-place-test.false) in
    let few : length scripts ≤ 16 = omega (arith, length-map c.args.scripts.now (λ (script : Vec Line Global). script.items), c.requires.few_scripts) in
    by-end c.first_short.result _ _ _ _
    (λ none. all-made scripts items c.loop-place.made k end few c.loop-place.invariant.made c.loop-place.invariant.before c.requires.from_one none)
    (λ disorder short. some-short scripts items c.loop-place.made k end few c.loop-place.invariant.made c.loop-place.invariant.before disorder.line disorder.caller short.0 short.1)
    c.first_short.ensures

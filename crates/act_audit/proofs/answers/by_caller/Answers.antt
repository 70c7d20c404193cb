use Rattle.std.proofs.Common.{◌≡◌, ◌≤◌, ◌+◌, ◌∷◌, ◌++◌, List, Vec, Global, drop, length, arith, subst, sym, ap, ◌∙◌}
use Rattle.std.specs.Vec.Iter.{into_iter_items}
use Rattle.std.specs.Option.{option_to_list}
use Rattle.act_audit.specs.Judging.{answer_lists, with_answer}
use Rattle.act_audit.proofs.ByCaller.{Shared, all-shared, lent-back, shared-ask, shared-entry}
use Rattle.act_audit.proofs.answers.by_caller.Goals as goal
use Rattle.act_audit.proofs.answers.by_caller.Goals.{in-Ask+in-Some+in_ok-push_answer, in_default}
use Rattle.act_model.specs.Answer.{Reply}
use Rattle.act_model.specs.declared.journal.Item.{Item}
use Rattle.act_engine.proofs.Lists.{drop-next, drop-past}

pub loop-item-preserved : goal.loop-item-preserved
loop-item-preserved c =
    let items = c.args.items.now in
    let i = c.loop-item.item-index in
    let item = c.item-item.result in
    let here = drop-next items i item c.loop-item-test.true c.item-item.is in
    let so = subst (λ (is : List Item). Shared items c.args.answers.items (answer_lists c.loop-item.lists.items) is (into_iter_items c.loop-item.replies) i) here c.loop-item.invariant in
    let from : 1 ≤ item.caller = subst (λ (x : Item). 1 ≤ x.caller) (sym c.item-item.is) (c.requires.from_one i item c.loop-item-test.true) in
    let to : item.caller ≤ 16 = subst (λ (x : Item). x.caller ≤ 16) (sym c.item-item.is) (c.requires.to_most i item c.loop-item-test.true) in
    let all = c.args.answers.items in
    let left = drop (i + 1) items in
    elim c.match-item.branch [
      | in-Ask+in-Some+in_ok-push_answer w ↦
          let others = into_iter_items w.next.new.self in
          let reply = w.in-Some.reply in
          let first : into_iter_items c.loop-item.replies ≡ reply ∷ others = w.next.ensures.items ∙ ap (λ (r : _). option_to_list r ++ others) w.in-Some.is in
          let before = subst (λ (rs : List Reply). Shared items all (answer_lists c.loop-item.lists.items) (item ∷ left) rs i) first so in
          let after = shared-ask items all (answer_lists c.loop-item.lists.items) item left i reply others w.in-Ask.field-0 w.in-Ask.is from to before in
          let lists : answer_lists c.match-item.lists.items ≡ with_answer (answer_lists c.loop-item.lists.items) item.caller reply =
          ap (λ (v : _). answer_lists v.items) w.lists-is ∙ (ap answer_lists (lent-back c.loop-item.lists.len w.push_answer.new.lists c.loop-item.lists.items (omega (arith, w.push_answer.auto.lists, ap length w.deref_mut.ensures.value)) (omega (arith, c.loop-item.lists.ok))) ∙ (w.in_ok-push_answer.ensures ∙ ap (λ (ls : List (Vec Reply Global)). with_answer (answer_lists ls) item.caller reply) w.deref_mut.ensures.value)) in
          rw (lists, w.replies-is) after
      | in_default w ↦ rw (w.lists-is, w.replies-is) (shared-entry items all (answer_lists c.loop-item.lists.items) item left i (into_iter_items c.loop-item.replies) w.in_default.field-0 w.in_default.is so)
    ]

pub returns : goal.returns
returns c = λ contracts names all-are.
    all-shared contracts names c.args.items.now c.args.answers.items c.loop-item.lists.items (into_iter_items c.loop-item.replies) c.loop-item.item-index
    (subst (λ (is : List Item). Shared c.args.items.now c.args.answers.items (answer_lists c.loop-item.lists.items) is (into_iter_items c.loop-item.replies) c.loop-item.item-index)
    (drop-past c.args.items.now c.loop-item.item-index c.loop-item-test.false) c.loop-item.invariant) all-are

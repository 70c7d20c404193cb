use Rattle.std.proofs.Common.{◌≡◌, ℕ, List, [], ◌∷◌, ◌++◌, map, take, sym, ap, subst, ◌∙◌}
use Rattle.std.specs.Arc.{arc_value}
use Rattle.std.specs.declared.alloc.Global.{Global}
use Rattle.std.specs.declared.sync.Arc.{Arc}
use Rattle.std.proofs.lemmas.List.{map_more, map_push, take_all}
use Rattle.std.proofs.lemmas.List.Elements.{All-push}
use Rattle.std.proofs.lemmas.Option.{get_or_from_slice_get}
use Rattle.act_model.specs.Run.{Stream}
use Rattle.act_profile.specs.Run.{run_of}
use Rattle.act_profile.specs.DayOrder.{AreInDayOrder, RunsAreInDayOrder}
use Rattle.act_history.specs.History.{entries_of}
use Rattle.act_keeping.specs.Keeping.{AreResults}
use Rattle.act_keeping.proofs.Told.{listed-in}
use Rattle.act_board.proofs.claiming.children_results.Goals as goal

pub result_of-requires-clause-there : goal.result_of-requires-clause-there
result_of-requires-clause-there c =
    c.requires.there _ (listed-in c.args.portfolio.now.contracts.children c.args.contract c.loop-child.child-index c.children-children.result.now c.children-children.ensures.children c.loop-child-test.true)

pub loop-child-preserved : goal.loop-child-preserved
loop-child-preserved c = λ history keeps.
    let children = c.children-children.result.now in
    let i = c.loop-child.child-index in
    let runs = c.loop-child.runs.items in
    let run = c.in_ok-run.run' in
    let f : ℕ → Stream = run_of history.portfolio.contracts (take c.args.version (entries_of history)) in
    let old = c.loop-child.invariant history keeps in
    let new = c.in_ok-run.ensures.run history keeps in
    let items : c.push.new.self.items ≡ runs ++ run ∷ [] = c.in_ok-push.ensures.items in (
      ap (λ (rs : List (Arc Stream Global)). map arc_value rs) items
          ∙ (map_push arc_value runs run
          ∙ (ap (λ (rs : List Stream). rs ++ arc_value run ∷ []) old.0
          ∙ (ap (λ (r : Stream). map f (take i children) ++ r ∷ []) new.0
          ∙ sym (map_more f children i 0 c.loop-child-test.true)))),
      subst (λ (rs : List (Arc Stream Global)). RunsAreInDayOrder (map arc_value rs)) (sym items)
          (subst RunsAreInDayOrder (sym (map_push arc_value runs run)) (All-push (λ (r : Stream). AreInDayOrder r.rows) (map arc_value runs) (arc_value run) old.1 new.1)),
    )

pub returns : goal.returns
returns c =
    let children = c.children-children.result.now in
    record {
      runs = λ history keeps.
          subst (λ (xs : List ℕ). AreResults history c.args.version xs (map arc_value c.loop-child.runs.items))
          (take_all c.loop-child.child-index children c.loop-child-test.false ∙ sym (get_or_from_slice_get c.args.portfolio.now.contracts.children c.args.contract children [] c.children-children.ensures.children))
          (c.loop-child.invariant history keeps);
    }

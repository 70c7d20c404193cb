use Rattle.std.proofs.Common.{◌≡◌, List, [], ◌∷◌, ◌++◌, Some, ap, ◌∙◌, append_assoc}
use Rattle.std.proofs.lemmas.List.Elements.{All-pop}
use Rattle.act_board.specs.Calls.{IsOf}
use Rattle.act_keeping.specs.Work.{Work}
use Rattle.act_desk.proofs.Turns.{all-stay}
use Rattle.act_desk.proofs.steps.finish_each.Goals as goal

pub loop-done-preserved : goal.loop-done-preserved
loop-done-preserved c =
    let had = c.loop-done.invariant in
    let left = c.pop.new.self.items in
    let done = c.in-Some.done in
    let popped : c.loop-done.dones.items ≡ left ++ done ∷ [] = c.in-Some.ensures.items in
    let both = All-pop (IsOf c.loop-done.board) c.loop-done.dones.items left (Some done) popped had.rest in
    record {
      gone = (
        done ∷ had.gone.0,
        had.gone.1 ∙ (ap (λ (works : List Work). works ++ had.gone.0) popped ∙ append_assoc left (done ∷ []) had.gone.0),
        (c.loop-done.board, had.gone.2, c.finish.ensures),
      );
      rest = all-stay left done c.loop-done.board c.finish.new.self c.finish.ensures both.0;
    }

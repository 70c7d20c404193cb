use Rattle.std.proofs.Common.{List, [], ◌∷◌, ◌++◌, ap, subst, ◌∙◌, append_assoc}
use Rattle.act_board.specs.Calls.{Claims}
use Rattle.act_board.specs.declared.outcome.Claim.{Claim}
use Rattle.act_keeping.specs.Work.{Work}
use Rattle.act_desk.specs.Turns.{HandsOut}
use Rattle.act_desk.proofs.Turns.{in-order-next}
use Rattle.act_desk.proofs.steps.claim_more.Goals as goal

pub loop-preserved : goal.loop-preserved
loop-preserved c =
    let had = c.loop.invariant in
    let work = c.in-Ok-Task.task in
    let claimed : HandsOut work c.loop.board c.claim.new.self =
    subst (λ (answer : Claim). Claims c.loop.board answer c.claim.new.self) c.in-Ok-Task.field-0-is c.in-Ok-Task.ensures.claimed in (
      had.0 ++ work ∷ [],
      c.push_reserved.ensures.items ∙ (ap (λ (works : List Work). works ++ work ∷ []) had.1 ∙ append_assoc c.args.tasks.now.items had.0 (work ∷ [])),
      in-order-next HandsOut had.0 work c.args.board.now c.loop.board c.claim.new.self had.2 claimed,
    )

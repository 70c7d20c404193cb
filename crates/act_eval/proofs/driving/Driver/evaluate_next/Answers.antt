use Rattle.std.proofs.Common.{◌≡◌, ◌+◌, ℕ, true, arith, length, sym, ap, subst, ◌∙◌}
use Rattle.std.specs.Arc.{arc_value}
use Rattle.act_board.specs.Calls.{Claims, IsOf, after_finish}
use Rattle.act_board.specs.declared.outcome.Claim.{Claim}
use Rattle.act_history.specs.History.{History}
use Rattle.act_keeping.specs.Work.{Work, outcome, version}
use Rattle.act_model.specs.Run.{Stream}
use Rattle.act_profile.specs.DayOrder.{AreInDayOrder}
use Rattle.act_profile.specs.Run.{deepest}
use Rattle.act_transcript.specs.KnownLines.{IsKnown, IsPut}
use Rattle.act_transcript.specs.declared.blocks.Blocks.{Blocks}
use Rattle.act_transcript.proofs.KnownLines.{to-order}
use Rattle.act_eval.specs.Driven.{GoesOn, HasKnown}
use Rattle.act_eval.proofs.Blocks.{blocks-put, blocks-same, run-now}
use Rattle.act_eval.proofs.Quiet.{goes-on, goes-same, task-is-of, work-run}
use Rattle.act_eval.proofs.driving.Driver.evaluate_next.Goals as goal

pub finish-requires : goal.finish-requires
finish-requires g c =
    let told = subst (λ (claim : Claim). Claims c.args.self.now.board claim c.claim.new.self) c.in-Task.is c.in_ok-task.ensures.claimed in
    subst (IsOf c.claim.new.self) (sym c.in-Ok.ensures.done) (task-is-of c.args.self.now.board c.claim.new.self c.in-Task.task told)

pub put_asked-put-requires : goal.put_asked-put-requires
put_asked-put-requires g c =
    let board = c.args.self.now.board in
    let blocks = c.args.self.now.blocks in
    let work = c.in-Task.task in
    let told = subst (λ (claim : Claim). Claims board claim c.claim.new.self) c.in-Task.is c.in_ok-task.ensures.claimed in
    let own : Stream = run-now board work.contract in
    let is : arc_value c.run.result.now ≡ own = c.run.ensures ∙ (ap outcome c.in-Ok.ensures.done ∙ work-run board c.claim.new.self work told c.args.self.now.portfolio.now c.requires.quiet) in
    record {
      named = c.requires.known.named;
      written = c.requires.known.written;
      order = subst (λ (run : Stream). AreInDayOrder run.rows) (sym is) (to-order deepest board.portfolio.contracts _ work.contract);
      known = subst (λ (n : ℕ). IsKnown blocks.known.items blocks.kept.items n (arc_value c.run.result.now)) (sym c.contract-contract.ensures)
          (subst (IsKnown blocks.known.items blocks.kept.items work.contract) (sym is) (c.requires.known.known work.contract));
    }

pub returns-in_ok-count-in-Ok-clause-goes_on : goal.returns-in_ok-count-in-Ok-clause-goes_on
returns-in_ok-count-in-Ok-clause-goes_on g c =
    let board = c.args.self.now.board in
    let work = c.in-Task.task in
    let told = subst (λ (claim : Claim). Claims board claim c.claim.new.self) c.in-Task.is c.in_ok-task.ensures.claimed in
    let finished = subst (λ (w : Work). c.finish.new.self ≡ after_finish c.claim.new.self w.contract (version w)) c.in-Ok.ensures.done c.finish.ensures in
    let fresh = subst (λ (w : Work). c.fresh-fresh.result + length w.kept.rows ≡ length (outcome w).rows) c.in-Ok.ensures.done c.fresh-fresh.ensures in
    subst (λ (h : History). GoesOn true board h c.args.steps.now c.work.new.steps) (sym c.count.ensures.board)
    (goes-on board c.claim.new.self work told c.args.self.now.portfolio.now c.requires.quiet c.finish.new.self c.fresh-fresh.result c.args.steps.now c.work.new.steps finished fresh c.in-Ok.ensures.ticked)

pub returns-in_ok-count-in-Ok-clause-counted : goal.returns-in_ok-count-in-Ok-clause-counted
returns-in_ok-count-in-Ok-clause-counted g c =
    let fresh = subst (λ (w : Work). c.fresh-fresh.result + length w.kept.rows ≡ length (outcome w).rows) c.in-Ok.ensures.done c.fresh-fresh.ensures in
    omega (arith, fresh, c.in-Ok.ensures.ticked, c.in_ok-count-in-Ok.ensures.work)

pub returns-in_ok-count-in-Ok-clause-known : goal.returns-in_ok-count-in-Ok-clause-known
returns-in_ok-count-in-Ok-clause-known g c =
    let p = c.args.self.now.portfolio.now in
    let board = c.args.self.now.board in
    let before = c.args.self.now.blocks in
    let after = c.put_asked-put.new.blocks in
    let work = c.in-Task.task in
    let told = subst (λ (claim : Claim). Claims board claim c.claim.new.self) c.in-Task.is c.in_ok-task.ensures.claimed in
    let finished = subst (λ (w : Work). c.finish.new.self ≡ after_finish c.claim.new.self w.contract (version w)) c.in-Ok.ensures.done c.finish.ensures in
    let fresh = subst (λ (w : Work). c.fresh-fresh.result + length w.kept.rows ≡ length (outcome w).rows) c.in-Ok.ensures.done c.fresh-fresh.ensures in
    let goes = goes-on board c.claim.new.self work told p c.requires.quiet c.finish.new.self c.fresh-fresh.result c.args.steps.now c.work.new.steps finished fresh c.in-Ok.ensures.ticked in
    let same = goes-same p board c.finish.new.self c.requires.quiet true c.args.steps.now c.work.new.steps goes in
    let is = c.run.ensures ∙ (ap outcome c.in-Ok.ensures.done ∙ work-run board c.claim.new.self work told p c.requires.quiet) in
    let put = subst (λ (n : ℕ). IsPut n (run-now board work.contract) before after) c.contract-contract.ensures
    (subst (λ (run : Stream). IsPut c.contract-contract.result run before after) is c.in_ok-put-in-Ok.ensures.put) in
    subst (λ (b : Blocks). HasKnown c.count.new.self.board b) (sym c.count.ensures.blocks)
    (subst (λ (h : History). HasKnown h after) (sym c.count.ensures.board)
    (blocks-same board c.finish.new.self after same.0 same.1 (blocks-put board before after work.contract c.requires.known c.put_asked-put.ensures.same put)))

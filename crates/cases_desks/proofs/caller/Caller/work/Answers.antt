use Rattle.std.proofs.Common.{subst, sym}
use Rattle.std.specs.Prelude.{Result}
use Rattle.act_num.specs.declared.NoMemory.{NoMemory}
use Rattle.act_keeping.specs.Work.{Work}
use Rattle.act_board.specs.Calls.{IsOf}
use Rattle.act_board.specs.declared.outcome.Claim.{Claim}
use Rattle.act_desk.specs.Calls.{ClaimsOrNot}
use Rattle.act_desk.specs.Step.{HasSeen, IsStep}
use Rattle.act_desk.proofs.Watching.{claimed-seen}
use Rattle.cases_desks.proofs.Playing.{plays-claim, plays-finish, plays-give_up}
use Rattle.cases_desks.proofs.caller.Caller.work.Goals as goal

pub finish-requires-clause-done : goal.finish-requires-clause-done
finish-requires-clause-done g c =
    subst (λ (work : Work). HasSeen c.claim-claim.new.pass (λ history. IsOf history work)) (sym c.in-Ok.ensures)
    (claimed-seen c.args.self.now.number c.args.pass.now c.claim-claim.new.pass c.requires.number_is c.requires.seen.history c.requires.seen.seen c.in-Some.task
    (subst (λ (answer : Result Claim NoMemory). IsStep c.args.pass.now (ClaimsOrNot answer) c.claim-claim.new.pass) c.in-Some.ensures c.claim-claim.ensures))

pub returns-in-Ok : goal.returns-in-Ok
returns-in-Ok g c = plays-finish _ _ _ _ _ (plays-claim _ _ _ _ _ c.requires _ c.claim-claim.ensures) c.in-Ok.done c.finish.ensures

pub returns-in-Err : goal.returns-in-Err
returns-in-Err g c = plays-give_up _ _ _ _ _ (plays-claim _ _ _ _ _ c.requires _ c.claim-claim.ensures) c.give_up.ensures

pub returns-in_default : goal.returns-in_default
returns-in_default g c = plays-claim _ _ _ _ _ c.requires _ c.claim-claim.ensures

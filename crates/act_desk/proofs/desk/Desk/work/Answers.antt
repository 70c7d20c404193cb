use Rattle.std.proofs.Common.{◌≡◌, Ok, ap, subst, sym, ◌∙◌}
use Rattle.std.specs.List.{All}
use Rattle.std.proofs.lemmas.List.Elements.{All-nil}
use Rattle.act_board.specs.Calls.{IsOf}
use Rattle.act_portfolio.specs.Reading.{Accepted}
use Rattle.act_desk.specs.Desk.{Desk}
use Rattle.act_keeping.specs.Work.{Work}
use Rattle.act_desk.specs.Making.{HasWatched}
use Rattle.act_desk.specs.Step.{HasSeen}
use Rattle.act_desk.specs.Turns.{FinishesAndClaims, IsTurn}
use Rattle.act_desk.specs.declared.outcome.Claimed.{Claimed}
use Rattle.act_desk.proofs.Turns.{all-portfolio, ended-over, handed-out, watched-both}
use Rattle.act_desk.proofs.Watching.{watched-portfolio}
use Rattle.act_desk.proofs.desk.Desk.work.Goals.{After-finish_and_claim, In-Tasks}
use Rattle.act_desk.proofs.desk.Desk.work.Goals as goal

watched : (g : _) (c : After-finish_and_claim g) → HasWatched c.args.pass.now c.finish_and_claim.new.pass
watched g c = watched-both _ _ c.finish_and_claim.result _ _ c.finish_and_claim.ensures.turn

-- what the pass has seen where nothing is left to hand in
none : (g : _) (c : After-finish_and_claim g) → HasSeen c.finish_and_claim.new.pass (λ history. All (IsOf history) c.finish_and_claim.new.dones.items)
none g c = let seen = watched g c in record {
  history = seen.history;
  seen = seen.seen;
  holds = subst (All (IsOf seen.history)) (sym c.finish_and_claim.ensures.none) (All-nil (IsOf seen.history));
}

handed : (g : _) (c : In-Tasks g) → HasSeen c.finish_and_claim.new.pass (λ history. All (IsOf history) c.finish_and_claim.new.tasks.items)
handed g c =
    handed-out c.args.dones.now.items c.finish_and_claim.new.tasks.items c.args.pass.now c.finish_and_claim.new.pass
    (subst (λ (answer : Claimed). IsTurn c.args.pass.now (FinishesAndClaims c.args.dones.now.items c.finish_and_claim.new.tasks.items (Ok answer)) c.finish_and_claim.new.pass) c.in-Tasks.is c.in_ok-finish_and_claim.ensures.turn)

pub make_all-requires-clause-tasks : goal.make_all-requires-clause-tasks
make_all-requires-clause-tasks g c κs within =
    let at = goal.at.make_all-requires-clause-tasks g c in
    subst (λ (of : Accepted). All (λ (work : Work). of ≡ work.portfolio) c.finish_and_claim.new.tasks.items) (sym (c.deref.ensures ∙ ap (λ (desk : Desk). desk.portfolio) c.self.view_is))
    (all-portfolio _ _ _ (handed g at.In-Tasks) (watched-portfolio (watched g at.After-finish_and_claim) c.requires.portfolio))

pub returns-in_ok-make_all-in-Tasks-clause-dones : goal.returns-in_ok-make_all-in-Tasks-clause-dones
returns-in_ok-make_all-in-Tasks-clause-dones g c =
    let at = goal.at.returns-in_ok-make_all-in-Tasks-clause-dones g c in
    let tasks = handed g at.In-Tasks in
    record {
      history = tasks.history;
      seen = tasks.seen;
      holds = c.in_ok-make_all-in-Tasks.ensures tasks.history tasks.holds (subst (All (IsOf tasks.history)) (sym c.finish_and_claim.ensures.none) (All-nil (IsOf tasks.history)));
    }

pub returns-in_err-finish_and_claim-clause-watched : goal.returns-in_err-finish_and_claim-clause-watched
returns-in_err-finish_and_claim-clause-watched g c = watched g (goal.at.returns-in_err-finish_and_claim-clause-watched g c).After-finish_and_claim

pub returns-in_err-make_all-in-Tasks-clause-watched : goal.returns-in_err-make_all-in-Tasks-clause-watched
returns-in_err-make_all-in-Tasks-clause-watched g c = watched g (goal.at.returns-in_err-make_all-in-Tasks-clause-watched g c).After-finish_and_claim

pub returns-in_ok-make_all-in-Tasks-clause-watched : goal.returns-in_ok-make_all-in-Tasks-clause-watched
returns-in_ok-make_all-in-Tasks-clause-watched g c = watched g (goal.at.returns-in_ok-make_all-in-Tasks-clause-watched g c).After-finish_and_claim

pub returns-in-Idle-clause-watched : goal.returns-in-Idle-clause-watched
returns-in-Idle-clause-watched g c = watched g (goal.at.returns-in-Idle-clause-watched g c).After-finish_and_claim

pub returns-in-Idle-clause-dones : goal.returns-in-Idle-clause-dones
returns-in-Idle-clause-dones g c = none g (goal.at.returns-in-Idle-clause-dones g c).After-finish_and_claim

pub returns-in-Ended-clause-watched : goal.returns-in-Ended-clause-watched
returns-in-Ended-clause-watched g c = watched g (goal.at.returns-in-Ended-clause-watched g c).After-finish_and_claim

pub returns-in-Ended-clause-dones : goal.returns-in-Ended-clause-dones
returns-in-Ended-clause-dones g c = none g (goal.at.returns-in-Ended-clause-dones g c).After-finish_and_claim

pub returns-in-Ended-clause-over : goal.returns-in-Ended-clause-over
returns-in-Ended-clause-over g c over =
    ended-over c.args.dones.now.items c.finish_and_claim.new.tasks.items c.args.pass.now c.finish_and_claim.new.pass
    (subst (λ (answer : Claimed). IsTurn c.args.pass.now (FinishesAndClaims c.args.dones.now.items c.finish_and_claim.new.tasks.items (Ok answer)) c.finish_and_claim.new.pass) c.in-Ended.is c.in_ok-finish_and_claim.ensures.turn)

pub returns-in-GivenUp-clause-watched : goal.returns-in-GivenUp-clause-watched
returns-in-GivenUp-clause-watched g c = watched g (goal.at.returns-in-GivenUp-clause-watched g c).After-finish_and_claim

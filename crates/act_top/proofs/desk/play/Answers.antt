use Rattle.std.proofs.Common.{List, sym, ap, subst, ◌∙◌}
use Rattle.act_job.specs.Job.{Job}
use Rattle.act_model.specs.declared.journal.Line.{Line}
use Rattle.act_portfolio.specs.Reading.{Accepted}
use Rattle.act_session.specs.Playing.{ArePlayable, lines_of}
use Rattle.act_top.proofs.Plays.{playable, played-of}
use Rattle.act_top.proofs.desk.play.Goals as goal

pub session-requires-clause-scripts : goal.session-requires-clause-scripts
session-requires-clause-scripts g c = λ κs met.
    let j = c.args.job.now in
    let portfolio = c.in_ok-portfolio.ensures ∙ ap (λ (job : Job). job.portfolio) c.job.view_is in
    subst (λ (p : Accepted). ArePlayable p (lines_of c.lists.result.now)) (sym portfolio)
    (subst (λ (lists : List (List Line)). ArePlayable j.portfolio lists) (sym c.lists.ensures.lists) (playable j.portfolio j.scripts j.workers c.lists.ensures.ready c.requires))

pub returns : goal.returns
returns g c =
    let portfolio = c.in_ok-portfolio.ensures ∙ ap (λ (job : Job). job.portfolio) c.job.view_is in
    played-of g.A.FromAnswer.kept_of c.args.job.now _ (lines_of c.lists.result.now) c.session.result portfolio c.lists.ensures.lists c.lists.ensures.ready c.session.ensures.board c.session.ensures.answers

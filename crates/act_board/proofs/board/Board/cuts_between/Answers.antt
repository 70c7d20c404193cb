use Rattle.std.proofs.Common.{◌≡◌, List, max, min, subst}
use Rattle.std.specs.Arc.{arc_value}
use Rattle.std.proofs.lemmas.Result.{IfOk-weaker}
use Rattle.act_model.specs.declared.observed.Obs.{Obs}
use Rattle.act_portfolio.specs.Reading.{Accepted}
use Rattle.act_profile.specs.Reads.{cut_of}
use Rattle.act_history.specs.History.{History, entries_of}
use Rattle.act_board.proofs.board.Board.cuts_between.Goals as goal

pub returns-clause-each : goal.returns-clause-each
returns-clause-each c =
    let b = c.self.inside in
    let from = min c.args.one c.args.other in
    let to = max c.args.one c.args.other in
    IfOk-weaker c.cuts_between.result _ _ (λ cuts is d cut at.
    subst (λ (h : History). cut ≡ cut_of h.portfolio.contracts d (entries_of h) from to) c.self.view_is
    (subst (λ (entries : List Obs). cut ≡ cut_of (arc_value b.portfolio).contracts d entries from to) c.self.invariant.0.entries
    (subst (λ (p : Accepted). cut ≡ cut_of p.contracts d b.book from to) c.deref.ensures (is d cut at)))) c.cuts_between.ensures.each

use Rattle.std.proofs.Common.{◌∙◌}
use Rattle.std.proofs.lemmas.Option.{IfSome_then}
use Rattle.std.proofs.lemmas.Result.{IfErr-weaker, IfOk-weaker}
use Rattle.act_refusal.specs.Refusal.{refusal_of}
use Rattle.act_portfolio.proofs.reading.read_portfolio.Goals as goal

pub portfolio_checked-requires : goal.portfolio_checked-requires
portfolio_checked-requires c = let known = c.in_ok-checked.ensures.checked in (known.0, known.2)

pub returns-clause-accepted : goal.returns-clause-accepted
returns-clause-accepted c =
    let known = c.in_ok-checked.ensures.checked in
    IfOk-weaker c.portfolio_checked.result _ _ (λ portfolio accepted. known.1 ∙ accepted known.0 known.2) c.portfolio_checked.ensures.accepted

pub returns-clause-refused : goal.returns-clause-refused
returns-clause-refused c =
    let known = c.in_ok-checked.ensures.checked in
    IfErr-weaker c.portfolio_checked.result _ _ (λ fault refused. IfSome_then (refusal_of fault) refused (λ refusal told. known.1 ∙ told known.0 known.2)) c.portfolio_checked.ensures.refused

use Rattle.std.proofs.Common.{◌≡◌, IfSome, subst, ◌∙◌}
use Rattle.act_portfolio.specs.Reading.{Accepted}
use Rattle.cases_boards.proofs.driven.work_of_another.Goals as goal

pub returns-clause-portfolio : goal.returns-clause-portfolio
returns-clause-portfolio c =
    subst (λ (p : Accepted). IfSome c.made.result (λ done. done.portfolio ≡ p)) (c.claim.ensures.portfolio ∙ (c.ask.ensures.portfolio ∙ c.in-Ok.ensures.portfolio)) c.made.ensures.portfolio

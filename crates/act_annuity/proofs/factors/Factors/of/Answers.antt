use Rattle.std.proofs.Common.{sym, ap, ◌∙◌, arith}
use Rattle.act_annuity.specs.Payment.{factor_of}
use Rattle.act_annuity.proofs.Keeping.{kept_is}
use Rattle.act_annuity.proofs.factors.Factors.of.Goals as goal

pub returns-then-eq-clause-value : goal.returns-then-eq-clause-value
returns-then-eq-clause-value c =
    kept_is c.self.inside.rate c.self.inside.kept _ _ c.in-Some.known c.args.period c.in-Some.factor c.self.invariant (omega arith) c.in-Some.is (sym c.eq.ensures ∙ c.if-eq.true)
    ∙ ap (λ rate. factor_of rate c.args.period) c.self.view_is

use Rattle.std.proofs.Common.{map, sym, ap, ◌∙◌}
use Rattle.std.specs.Arc.{arc_value}
use Rattle.act_model.specs.Terms.{Guarantee}
use Rattle.act_credit.proofs.CodesRead.{states_alone}
use Rattle.act_credit.proofs.amounts.total_exposure.Goals as goal

pub returns-in_default : goal.returns-in_default
returns-in_default g c =
    states_alone (g.O.Observed.entries c.args.seen.now) c.args.guarantee.now (map arc_value c.args.children.now) c.args.day _ c.deref-in_default.result.now c.sum_of_exposures.result
    c.in_default.not-MV (sym (ap (λ (x : Guarantee). x.guaranteed_exposure) c.guarantee.view_is))
    (c.deref-in_default.ensures.value ∙ ap (λ (x : Guarantee). x.covered) c.guarantee.view_is) c.sum_of_exposures.ensures

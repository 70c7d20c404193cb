use Rattle.std.proofs.Common.{◌≡◌, length, refl, ap, arith}
use Rattle.act_model.specs.Run.{EventPlan}
use Rattle.act_model.specs.declared.terms.Kind.{Kind}
use Rattle.act_model.specs.declared.terms.Kind.TheVariants as kind
use Rattle.act_model.specs.declared.terms.Cec.{Cec}
use Rattle.act_model.specs.declared.terms.Ceg.{Ceg}
use Rattle.act_profile.specs.Plan.{own_count}
use Rattle.act_cones.proofs.FewEvents.{few_counted}
use Rattle.act_cones.proofs.counts.own_count.Goals as goal

all_counted : (k : Kind) (plan : EventPlan) → ((ceg : Ceg) → k ≡ kind.CEG ceg → ⊥) → ((cec : Cec) → k ≡ kind.CEC cec → ⊥) → length plan.events ≡ own_count k plan
all_counted (kind.CEG ceg) plan not not₂ = absurd (not ceg refl)
all_counted (kind.CEC cec) plan not not₂ = absurd (not₂ cec refl)
all_counted other plan not not₂ = refl

pub returns-in_default : goal.returns-in_default
returns-in_default c =
    let all = all_counted c.args.terms.now.kind c.args.plan.now c.in_default.not-CEG c.in_default.not-CEC in
    let counted : c.len.result ≡ own_count c.args.terms.now.kind c.args.plan.now = omega (arith, c.len.ensures, ap (λ p. length p.events) c.plan.view_is, all) in
    record {
      count = counted;
      few = omega (arith, counted, few_counted c.args.terms.now c.args.plan.now c.requires.plan);
    }

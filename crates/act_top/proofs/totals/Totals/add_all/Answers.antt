use Rattle.std.proofs.Common.{◌≡◌, ℕ, suc, ◌+◌, ◌∷◌, drop, drop-cons, get_or, ap, ◌∙◌, arith}
use Rattle.act_top.specs.declared.totals.Totals.{Totals}
use Rattle.act_top.proofs.Counting.{unadded-all, unadded-next, unadded-none}
use Rattle.act_engine.proofs.Lists.{drop-past}
use Rattle.act_top.proofs.totals.Totals.add_all.Goals as goal

pub loop-other-init : goal.loop-other-init
loop-other-init c = unadded-all _ _ (omega arith)

pub loop-other-preserved : goal.loop-other-preserved
loop-other-preserved c =
    let none : Totals = record { rows = 0; sum = 0 } in
    let next : suc c.loop-other.other-index ≡ c.loop-other.other-index + 1 = omega arith in
    unadded-next _ _ _ _ _ _ _ c.loop-other.invariant
    (drop-cons c.args.others.now c.loop-other.other-index none c.loop-other-test.true ∙ ap (λ (n : ℕ). get_or c.args.others.now c.loop-other.other-index none ∷ drop n c.args.others.now) next)
    c.in_ok-add.ensures

pub returns : goal.returns
returns c = unadded-none _ _ _ _ c.loop-other.invariant (drop-past c.args.others.now c.loop-other.other-index c.loop-other-test.false)

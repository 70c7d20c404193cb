use Rattle.std.proofs.Common.{sym, ◌∙◌}
use Rattle.act_model.specs.declared.terms.Covered.{Covered}
use Rattle.act_credit.proofs.CodesRead.{item_at, sum_done, sum_ends, sum_turn}
use Rattle.act_credit.proofs.amounts.market_value.Goals as goal

pub returns-in-Err : goal.returns-in-Err
returns-in-Err g c =
    let here = item_at c.args.covered.now c.covered.contract-index c.contract-item.result c.covered-test.true c.contract-item.is in
    sym (c.covered.invariant ∙ sum_ends (λ (x : Covered). x.market) (g.O.Observed.entries c.args.seen.now) c.args.day c.covered.sum c.args.covered.now c.covered.contract-index c.contract-item.result here c.in-Err.stop (sym c.in-Err.is ∙ c.sum_with.ensures))

pub covered-preserved : goal.covered-preserved
covered-preserved g c =
    let here = item_at c.args.covered.now c.covered.contract-index c.contract-item.result c.covered-test.true c.contract-item.is in
    c.covered.invariant ∙ sum_turn (λ (x : Covered). x.market) (g.O.Observed.entries c.args.seen.now) c.args.day c.covered.sum c.args.covered.now c.covered.contract-index c.contract-item.result here c.in-Ok.next (sym c.in-Ok.is ∙ c.sum_with.ensures)

pub returns : goal.returns
returns g c = sym (c.covered.invariant ∙ sum_done (λ (x : Covered). x.market) (g.O.Observed.entries c.args.seen.now) c.args.day c.covered.sum c.args.covered.now c.covered.contract-index c.covered-test.false)

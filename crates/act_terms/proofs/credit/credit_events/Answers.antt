use Rattle.std.proofs.Common.{◌≡◌, Err, ap, map, sym}
use Rattle.std.proofs.lemmas.List.{at_drop_all}
use Rattle.act_json.specs.Tree.{data_in}
use Rattle.act_model.proofs.Lists.{next_of}
use Rattle.act_terms.proofs.CreditEvents.{all_read, one_read, one_refused}
use Rattle.act_terms.proofs.WithoutWant.{given_up}
use Rattle.act_terms.proofs.credit.credit_events.Goals as goal

pub returns-in_err-covered-clause-refused : goal.returns-in_err-covered-clause-refused
returns-in_err-covered-clause-refused c =
    let here = ap (map data_in) (next_of c.args.values.now c.loop-value.value-index c.value-item.result c.loop-value-test.true c.value-item.is) in
    let is : c.from_residual.result ≡ Err c.in_err-covered.field-0.0 = given_up _ _ c.from_residual.ensures.1 in
    rw is (λ read. one_refused _ _ _ _ _ _ c.loop-value.invariant here (sym c.in_err-covered.ensures))

pub loop-value-preserved : goal.loop-value-preserved
loop-value-preserved c =
    let here = ap (map data_in) (next_of c.args.values.now c.loop-value.value-index c.value-item.result c.loop-value-test.true c.value-item.is) in
    rw c.in_ok-push.ensures.items (one_read _ _ _ _ _ _ c.loop-value.invariant here (sym c.in_ok-covered.ensures))

pub returns-clause-read : goal.returns-clause-read
returns-clause-read c = all_read _ _ _ c.loop-value.invariant (at_drop_all (map data_in) _ _ c.loop-value-test.false)

use Rattle.std.proofs.Common.{◌≡◌, Err, ap, map}
use Rattle.std.proofs.lemmas.List.{at_drop_all}
use Rattle.act_json.specs.Tree.{data_in}
use Rattle.act_model.proofs.Lists.{next_of}
use Rattle.act_terms.proofs.Elements.{all_read, one_read, one_refused}
use Rattle.act_terms.proofs.WithoutWant.{given_up}
use Rattle.act_terms.proofs.structure.read_elements.Goals as goal

pub returns-in_err-reference-clause-refused : goal.returns-in_err-reference-clause-refused
returns-in_err-reference-clause-refused c =
    let here = ap (map data_in) (next_of c.args.elements.now c.loop-element.element-index c.element-item.result c.loop-element-test.true c.element-item.is) in
    let is : c.from_residual-in_err-reference.result ≡ Err c.in_err-reference.field-0.0 = given_up _ _ c.from_residual-in_err-reference.ensures.1 in
    rw is (λ read. one_refused _ _ _ _ _ _ _ _ c.loop-element.invariant here (c.in_err-reference.ensures.refused read))

pub loop-element-preserved : goal.loop-element-preserved
loop-element-preserved c =
    let here = ap (map data_in) (next_of c.args.elements.now c.loop-element.element-index c.element-item.result c.loop-element-test.true c.element-item.is) in
    rw c.in_ok-push.ensures.items (one_read _ _ _ _ _ _ _ _ _ c.loop-element.invariant here c.in_ok-reference.ensures.read)

pub returns-clause-read : goal.returns-clause-read
returns-clause-read c = all_read _ _ _ _ _ c.loop-element.invariant (at_drop_all (map data_in) _ _ c.loop-element-test.false)

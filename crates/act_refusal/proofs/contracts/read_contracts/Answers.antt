use Rattle.std.proofs.Common.{◌≡◌, Err, map, IfSome, zero, rules}
use Rattle.std.proofs.lemmas.List.{at_drop_all}
use Rattle.std.proofs.lemmas.Option.{IfSome_then}
use Rattle.act_json.specs.Tree.{data_in}
use Rattle.act_model.specs.Names.{no_names}
use Rattle.act_refusal.specs.Steps.{contracts_from}
use Rattle.act_refusal.specs.Refusal.{refusal_of}
use Rattle.act_cones.proofs.Lists.{left_from}
use Rattle.act_refusal.proofs.ReadSoFar.{all_read, one_read, one_refused}
use Rattle.act_refusal.proofs.contracts.read_contracts.Goals as goal

pub returns-in_err-next-clause-refused : goal.returns-in_err-next-clause-refused
returns-in_err-next-clause-refused c =
    let here = left_from (λ c. data_in c.value.now) c.args.contracts.now c.loop-number.number c.index-contracts-number.result c.loop-number-test.true c.index-contracts-number.is in
    let whole : IfSome (refusal_of c.in_err-next.field-0.0) (λ refusal. contracts_from zero no_names (map (λ c. data_in c.value.now) c.args.contracts.now) ≡ Err refusal) =
    IfSome_then (refusal_of c.in_err-next.field-0.0) c.in_err-next.ensures.refused (λ refusal. one_refused _ _ _ _ _ _ _ refusal c.loop-number.invariant here) in
    search rules

pub loop-number-preserved : goal.loop-number-preserved
loop-number-preserved c =
    let here = left_from (λ c. data_in c.value.now) c.args.contracts.now c.loop-number.number c.index-contracts-number.result c.loop-number-test.true c.index-contracts-number.is in
    let h = c.in_ok-next.ensures in
    rw c.in_ok-push.ensures.items (one_read _ _ _ _ _ _ _ _ _ c.loop-number.invariant here h.read h.contract h.contracts h.named)

pub returns-clause-read : goal.returns-clause-read
returns-clause-read c = all_read _ _ _ _ _ c.loop-number.invariant (at_drop_all (map (λ c. data_in c.value.now)) _ _ c.loop-number-test.false)

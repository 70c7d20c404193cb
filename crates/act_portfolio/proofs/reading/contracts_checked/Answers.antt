use Rattle.std.proofs.Common.{◌≡◌, Err, IfSome, arith, map, rules, zero, ◌∙◌}
use Rattle.std.proofs.lemmas.List.{length-map}
use Rattle.std.proofs.lemmas.Option.{IfSome_then}
use Rattle.act_json.specs.Tree.{data_in}
use Rattle.act_model.specs.Names.{no_names}
use Rattle.act_portfolio.specs.Reading.{portfolio_listed}
use Rattle.act_refusal.specs.Refusal.{refusal_of}
use Rattle.act_portfolio.proofs.Accepting.{as_many_read, refused_checks, refused_contracts}
use Rattle.act_portfolio.proofs.reading.contracts_checked.Goals as goal

pub returns-in_err-named-clause-refused : goal.returns-in_err-named-clause-refused
returns-in_err-named-clause-refused c =
    let objects = map (λ v. data_in v.value.now) c.args.contracts.now in
    let whole : IfSome (refusal_of c.in_err-named.field-0.0) (λ refusal. portfolio_listed objects ≡ Err refusal) =
    IfSome_then (refusal_of c.in_err-named.field-0.0) c.in_err-named.ensures.refused (λ refusal. refused_contracts objects refusal) in
    search rules

pub check-requires-clause-few : goal.check-requires-clause-few
check-requires-clause-few c =
    let objects = map (λ v. data_in v.value.now) c.args.contracts.now in
    let many = as_many_read objects zero no_names _ _ c.in_ok-named.ensures.read in
    rw c.deref.ensures.value (omega (arith, c.if-contracts-gt-TOO_MANY.false, length-map c.args.contracts.now (λ v. data_in v.value.now)))

pub returns-in_err-check-clause-refused : goal.returns-in_err-check-clause-refused
returns-in_err-check-clause-refused c =
    let objects = map (λ v. data_in v.value.now) c.args.contracts.now in
    let whole : IfSome (refusal_of c.in_err-check.field-0.0) (λ refusal. portfolio_listed objects ≡ Err refusal) =
    IfSome_then (refusal_of c.in_err-check.field-0.0) (rw c.deref.ensures.value at c.in_err-check.ensures.refused) (λ refusal. refused_checks objects _ _ c.in_ok-named.ensures.read refusal) in
    search rules

pub unused_lists-requires : goal.unused_lists-requires
unused_lists-requires c =
    let objects = map (λ v. data_in v.value.now) c.args.contracts.now in
    let many = as_many_read objects zero no_names _ _ c.in_ok-named.ensures.read in
    record { all = rw c.deref-2.ensures.value (many ∙ length-map c.args.contracts.now (λ v. data_in v.value.now)) }

pub returns-clause-checked : goal.returns-clause-checked
returns-clause-checked c = record {
  before = c.in_ok-named.field-0.names;
  read = c.in_ok-named.ensures.read;
  names = rw c.deref.ensures.value at c.in_ok-check.ensures.names;
  passed = rw c.deref.ensures.value at c.in_ok-check.ensures.checked;
  fit = rw c.deref.ensures.value at c.in_ok-check.ensures.fit;
  few = rw c.deref.ensures.value at c.in_ok-check.ensures.few_contracts;
  are = c.in_ok-named.ensures.contracts;
  named = c.in_ok-named.ensures.named;
  left = rw c.deref-2.ensures.value at c.in_ok-unused.ensures;
}

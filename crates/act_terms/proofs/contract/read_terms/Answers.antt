use Rattle.std.proofs.Common.{◌≡◌, Err, refl}
use Rattle.act_terms.specs.Contract.{terms_of}
use Rattle.act_terms.proofs.WithoutWant.{given_up}
use Rattle.act_terms.proofs.contract.read_terms.Goals as goal

pub returns-in_err-common : goal.returns-in_err-common
unfolding terms_of
returns-in_err-common c =
    let is : c.from_residual.result ≡ Err c.in_err-common.field-0.0 = given_up _ _ c.from_residual.ensures.1 in
    record { refused = rw is (λ read. rw (c.in_err-common.ensures.refused read) refl); read = rw is tt; built = rw is tt }

pub returns-in_err-kind : goal.returns-in_err-kind
unfolding terms_of
returns-in_err-kind c =
    let is : c.from_residual-in_err-kind.result ≡ Err c.in_err-kind.field-0.0 = given_up _ _ c.from_residual-in_err-kind.ensures.1 in
    record { refused = rw is (λ read. rw (c.in_ok-common.ensures.read, c.in_err-kind.ensures.refused read) refl); read = rw is tt; built = rw is tt }

pub returns : goal.returns
unfolding terms_of
returns c = record { read = rw (c.in_ok-common.ensures.read, c.in_ok-kind.ensures.read) refl; refused = tt; built = c.in_ok-kind.ensures.built }

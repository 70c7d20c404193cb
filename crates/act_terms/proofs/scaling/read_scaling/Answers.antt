use Rattle.std.proofs.Common.{◌≡◌, Err, refl}
use Rattle.act_terms.specs.Loan.{scaling_of}
use Rattle.act_terms.proofs.WithoutWant.{given_up}
use Rattle.act_terms.proofs.scaling.read_scaling.Goals as goal

pub returns-in_err-given : goal.returns-in_err-given
unfolding scaling_of
returns-in_err-given c =
    let is : c.from_residual.result ≡ Err c.in_err-given.field-0.0 = given_up _ _ c.from_residual.ensures.1 in
    record { refused = rw is (λ read. rw (← c.choice_in.ensures, ← c.in_err-given.ensures) refl); read = rw is tt; cycle = rw is tt }

pub returns-in_err-anchor : goal.returns-in_err-anchor
unfolding scaling_of
returns-in_err-anchor c =
    let is : c.from_residual-in_err-anchor.result ≡ Err c.in_err-anchor.field-0.0 = given_up _ _ c.from_residual-in_err-anchor.ensures.1 in
    record { refused = rw is (λ read. rw (← c.choice_in.ensures, ← c.in_ok-given.ensures, ← c.in_err-anchor.ensures) refl); read = rw is tt; cycle = rw is tt }

pub returns-in_err-cycle : goal.returns-in_err-cycle
unfolding scaling_of
returns-in_err-cycle c =
    let is : c.from_residual-in_err-cycle.result ≡ Err c.in_err-cycle.field-0.0 = given_up _ _ c.from_residual-in_err-cycle.ensures.1 in
    record { refused = rw is (λ read. rw (← c.choice_in.ensures, ← c.in_ok-given.ensures, ← c.in_ok-anchor.ensures, ← c.in_err-cycle.ensures.cycle) refl); read = rw is tt; cycle = rw is tt }

pub returns-in_err-code : goal.returns-in_err-code
unfolding scaling_of
returns-in_err-code c =
    let is : c.from_residual-in_err-code.result ≡ Err c.in_err-code.field-0.0 = given_up _ _ c.from_residual-in_err-code.ensures.1 in
    record { refused = rw is (λ read. rw (← c.choice_in.ensures, ← c.in_ok-given.ensures, ← c.in_ok-anchor.ensures, ← c.in_ok-cycle.ensures.cycle, ← c.unwrap_or-effect.ensures, ← c.scales-scales.ensures, c.in_err-code.ensures.refused read) refl); read = rw is tt; cycle = rw is tt }

pub returns-in_err-index : goal.returns-in_err-index
unfolding scaling_of
returns-in_err-index c =
    let is : c.from_residual-in_err-index.result ≡ Err c.in_err-index.field-0.0 = given_up _ _ c.from_residual-in_err-index.ensures.1 in
    record { refused = rw is (λ read. rw (← c.choice_in.ensures, ← c.in_ok-given.ensures, ← c.in_ok-anchor.ensures, ← c.in_ok-cycle.ensures.cycle, ← c.unwrap_or-effect.ensures, ← c.scales-scales.ensures, c.in_ok-code.ensures.read, ← c.positive.ensures, ← c.in_err-index.ensures) refl); read = rw is tt; cycle = rw is tt }

pub returns : goal.returns
unfolding scaling_of
returns c = record { read = rw (← c.choice_in.ensures, ← c.in_ok-given.ensures, ← c.in_ok-anchor.ensures, ← c.in_ok-cycle.ensures.cycle, ← c.unwrap_or-effect.ensures, ← c.scales-scales.ensures, c.in_ok-code.ensures.read, ← c.positive.ensures, ← c.in_ok-index.ensures) refl; refused = tt; cycle = c.in_ok-cycle.ensures.leads_on }

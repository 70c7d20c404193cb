use Rattle.std.proofs.Common.{◌≡◌, Err, refl}
use Rattle.act_terms.specs.Redemption.{redemption_dates_of}
use Rattle.act_terms.proofs.WithoutWant.{given_up}
use Rattle.act_terms.proofs.redemption.read_redemption_dates.Goals as goal

pub returns-in_err-anchor : goal.returns-in_err-anchor
unfolding redemption_dates_of
returns-in_err-anchor c =
    let is : c.from_residual.result ≡ Err c.in_err-anchor.field-0.0 = given_up _ _ c.from_residual.ensures.1 in
    record { dates = rw (← c.in_err-anchor.ensures) is; cycle = rw is tt; given = rw is tt }

pub returns-in_err-cycle : goal.returns-in_err-cycle
unfolding redemption_dates_of
returns-in_err-cycle c =
    let is : c.from_residual-in_err-cycle.result ≡ Err c.in_err-cycle.field-0.0 = given_up _ _ c.from_residual-in_err-cycle.ensures.1 in
    record { dates = rw (← c.in_ok-anchor.ensures, ← c.needs_cycle.ensures, ← c.in_err-cycle.ensures.cycle) is; cycle = rw is tt; given = rw is tt }

pub returns-clause-dates : goal.returns-clause-dates
unfolding redemption_dates_of
returns-clause-dates c = rw (← c.in_ok-anchor.ensures, ← c.needs_cycle.ensures, ← c.in_ok-cycle.ensures.cycle) refl

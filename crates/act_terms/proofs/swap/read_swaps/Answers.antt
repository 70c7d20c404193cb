use Rattle.std.proofs.Common.{◌≡◌, Err, refl}
use Rattle.act_terms.specs.Swap.{swaps_of}
use Rattle.act_terms.proofs.WithoutWant.{given_up}
use Rattle.act_terms.proofs.swap.read_swaps.Goals as goal

pub returns-in_err-delivery : goal.returns-in_err-delivery
unfolding swaps_of
returns-in_err-delivery c =
    let is : c.from_residual.result ≡ Err c.in_err-delivery.field-0.0 = given_up _ _ c.from_residual.ensures.1 in
    rw (← c.choice_in.ensures, ← c.in_err-delivery.ensures) is

pub returns : goal.returns
unfolding swaps_of
returns c = rw (← c.choice_in.ensures, ← c.in_ok-delivery.ensures, c.unwrap_or.ensures) refl

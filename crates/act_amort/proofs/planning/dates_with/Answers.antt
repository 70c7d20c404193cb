use Rattle.act_loan.proofs.Types.{all_types}
use Rattle.act_amort.proofs.TypesInTurn.{redemptions_are}
use Rattle.act_amort.proofs.planning.dates_with.Goals as goal

pub returns : goal.returns
returns c =
    let l = c.args.loan.now in
    rw c.in_ok-vec.ensures.items
    (all_types l _ _ _ _ _ _ _ _ _ _ _ _ c.exchanges.ensures c.purchases.ensures c.terminations.ensures
    (redemptions_are l _ c.args.redemptions.now c.requires.redemptions c.shifting.ensures.answer)
    c.capitalizations.ensures c.interest_payments.ensures c.fees.ensures c.resets.ensures c.payment_fixings.ensures c.base_fixings.ensures
    c.scalings.ensures c.maturities.ensures)

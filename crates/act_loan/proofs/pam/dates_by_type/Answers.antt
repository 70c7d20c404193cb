use Rattle.act_loan.proofs.Types.{all_types, no_bases, no_fixings, no_redemptions}
use Rattle.act_loan.proofs.pam.dates_by_type.Goals as goal

pub returns : goal.returns
returns c =
    let l = c.args.loan.now in
    rw c.in_ok-vec.ensures.items
    (all_types l _ _ _ _ _ _ _ _ _ _ _ _ c.exchanges.ensures c.purchases.ensures c.terminations.ensures
    (no_redemptions l _ c.requires.redemption c.no_dates.ensures)
    c.capitalizations.ensures c.interest_payments.ensures c.fees.ensures c.resets.ensures
    (no_fixings l _ c.requires.kind c.no_dates-2.ensures)
    (no_bases l _ c.requires.redemption c.no_dates-3.ensures)
    c.scalings.ensures c.maturities.ensures)

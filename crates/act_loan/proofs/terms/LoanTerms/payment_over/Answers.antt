use Rattle.std.proofs.Common.{arith}
use Rattle.act_loan.proofs.Redemptions.{parts_count, payment_on_last, to_the_end}
use Rattle.act_loan.proofs.terms.LoanTerms.payment_over.Goals as goal

pub returns-then-place-days : goal.returns-then-place-days
returns-then-place-days c =
    let over = payment_on_last c.args.self.now c.args.day c.args.state.now c.args.days.now c.place_after-place.result c.index-days-place.result c.if-place-days.true in
    let paid = rw (to_the_end c.args.periods.now c.place_after-place.result) at c.payment_from.ensures in
    rw (← c.place_after-place.ensures.after, over, ← c.index-days-place.is, ← c.requires) paid

pub slice_bounds-payment_from-start : goal.slice_bounds-payment_from-start
slice_bounds-payment_from-start c = grind (arith, parts_count)

pub slice_bounds-payment_from-count : goal.slice_bounds-payment_from-count
slice_bounds-payment_from-count c = grind (arith, parts_count)

pub slice_bounds-payment_from-end : goal.slice_bounds-payment_from-end
slice_bounds-payment_from-end c = grind (arith, parts_count)

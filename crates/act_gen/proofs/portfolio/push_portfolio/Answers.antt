use Rattle.std.proofs.Common.{◌<◌, length, map, arith}
use Rattle.act_gen.specs.Portfolio.{drawn_loan, numbers, portfolio_text}
use Rattle.act_gen.proofs.Texts.{all_put, length-map_numbers}
use Rattle.act_gen.proofs.portfolio.push_portfolio.Goals as goal

pub returns : goal.returns
unfolding portfolio_text
returns c =
    let some : 0 < length (map (drawn_loan c.args.n) (numbers c.args.n)) = omega (arith, length-map_numbers (drawn_loan c.args.n) c.args.n) in
    all_put _ _ _ _ _ _ _ _ _ some c.in_ok-push.ensures.items c.in_ok-push_loans.ensures c.in_ok-push_swaps.ensures c.in_ok-push-2.ensures.items

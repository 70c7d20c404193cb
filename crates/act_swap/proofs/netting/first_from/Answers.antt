use Rattle.std.proofs.Common.{◌≡◌, ◌≤◌, false, true, length, int_lt, arith, ◌∙◌}
use Rattle.std.proofs.lemmas.Int.{ints}
use Rattle.act_swap.proofs.Partners.{all_earlier, goes_on, stops_here}
use Rattle.act_swap.proofs.netting.first_from.Goals as goal

pub returns-then-ge : goal.returns-then-ge
returns-then-ge c =
    let from : int_lt c.row.result.day c.args.day ≡ false = grind (arith, ints) in
    stops_here c.args.day c.args.run.now.rows c.rows.place c.row.result c.rows.invariant c.row.ensures from

pub rows-preserved : goal.rows-preserved
rows-preserved c =
    let before : int_lt c.row.result.day c.args.day ≡ true = grind (arith, ints) in
    goes_on c.args.day c.args.run.now.rows c.rows.place c.row.result c.rows.invariant c.row.ensures before

pub returns : goal.returns
returns c =
    let le : length c.args.run.now.rows ≤ c.rows.place = rw c.count-place-end.ensures at c.rows-test.false in
    c.count.ensures ∙ all_earlier c.args.day c.args.run.now.rows c.rows.place c.rows.invariant le

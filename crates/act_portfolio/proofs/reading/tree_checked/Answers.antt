use Rattle.std.proofs.Common.{map}
use Rattle.act_json.specs.Tree.{data_in}
use Rattle.act_portfolio.proofs.Listed.{list_is}
use Rattle.act_portfolio.proofs.reading.tree_checked.Goals as goal

pub returns-in-Some-clause-checked : goal.returns-in-Some-clause-checked
returns-in-Some-clause-checked c = rw (list_is (data_in c.args.tree.now) (map data_in c.in-Some.listed.now) c.in-Some.ensures) c.list_checked.ensures.checked

pub returns-in-Some-clause-refused : goal.returns-in-Some-clause-refused
returns-in-Some-clause-refused c = rw (list_is (data_in c.args.tree.now) (map data_in c.in-Some.listed.now) c.in-Some.ensures) c.list_checked.ensures.refused

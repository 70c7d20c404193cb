use Rattle.act_json.proofs.Trees.{read_as_is, refused_as_is}
use Rattle.act_json.proofs.tree.read_tree.Goals as goal

pub returns-in_default : goal.returns-in_default
returns-in_default c never = refused_as_is c.args.bytes.now c.in_default.ensures.cases.0

pub returns : goal.returns
returns c never =
    read_as_is c.args.bytes.now c.in-Ok.text.now _ c.in-Ok.ensures.cases.0 c.in-Ok.ensures.cases.1 c.in_ok-check_numbers.ensures.read

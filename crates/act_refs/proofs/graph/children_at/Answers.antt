use Rattle.std.proofs.Common.{sym, ◌∙◌}
use Rattle.act_refs.proofs.Paths.{children_of-read}
use Rattle.act_refs.proofs.graph.children_at.Goals as goal

pub returns-clause-children : goal.returns-clause-children
returns-clause-children c =
    c.deref.ensures.value ∙ sym (children_of-read c.args.children.now c.args.contract c.index-children-contract.result c.index-children-contract.is c.requires.exists)

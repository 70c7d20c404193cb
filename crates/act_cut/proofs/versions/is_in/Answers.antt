use Rattle.std.proofs.Common.{◌∙◌}
use Rattle.act_cut.proofs.Halving.{found}
use Rattle.act_cut.proofs.versions.is_in.Goals as goal

pub returns : goal.returns
returns c = c.is_ok.ensures.value ∙ found c.args.numbers.now c.args.number c.binary_search.result c.requires.ascending c.binary_search.ensures.position

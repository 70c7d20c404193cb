use Rattle.act_top.proofs.Interleavings.{scripts-in-turn}
use Rattle.act_top.proofs.laws.scripts_in_turn_are_an_interleaving.Goals as goal

pub returns : goal.returns
returns c = scripts-in-turn

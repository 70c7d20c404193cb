use Rattle.act_top.proofs.Interleavings.{one-script}
use Rattle.act_top.proofs.laws.one_script_is_its_journal.Goals as goal

pub returns : goal.returns
returns c = one-script

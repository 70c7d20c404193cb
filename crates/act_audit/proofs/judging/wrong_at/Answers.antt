use Rattle.act_audit.proofs.Sizes.{lines-few}
use Rattle.act_audit.proofs.judging.wrong_at.Goals as goal

pub read_text-requires : goal.read_text-requires
read_text-requires c = record { lines = lines-few c.args.text.now c.parts_of.result.text.now c.parts_of.ensures.text c.requires.within }

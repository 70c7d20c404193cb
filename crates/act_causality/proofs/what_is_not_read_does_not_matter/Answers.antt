use Rattle.act_causality.proofs.KeptRows.{unread}
use Rattle.act_causality.proofs.what_is_not_read_does_not_matter.Goals as goal

pub returns : goal.returns
returns c = record { unread = unread }

use Rattle.act_causality.proofs.Law.{causality}
use Rattle.act_causality.proofs.what_is_dated_before_a_change_stays.Goals as goal

pub returns : goal.returns
returns c = record { causality = causality }

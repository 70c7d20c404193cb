use Rattle.act_audit.proofs.OneVerdict.{one-verdict}
use Rattle.act_audit.proofs.verdict.no_two_verdicts_are_both_so.Goals as goal

pub returns : goal.returns
returns c = λ job one other so also. one-verdict job one other so also

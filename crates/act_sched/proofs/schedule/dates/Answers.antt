use Rattle.std.proofs.Common.{rules}
use Rattle.std.proofs.lemmas.Result.{IfOk-weaker}
use Rattle.act_sched.proofs.Members.{ascending, members}
use Rattle.act_sched.proofs.schedule.dates.Goals as goal

pub returns-clause-members : goal.returns-clause-members
returns-clause-members c =
    IfOk-weaker c.dates_after.result _ _ (λ dates same day. rw same (members c.args.anchor c.args.cycle c.args.end c.args.rule (search rules) c.requires day)) c.dates_after.ensures.list

pub returns-clause-ascending : goal.returns-clause-ascending
returns-clause-ascending c =
    IfOk-weaker c.dates_after.result _ _ (λ dates same. rw same (ascending c.args.anchor c.args.cycle c.args.end c.args.rule (search rules) c.requires)) c.dates_after.ensures.list

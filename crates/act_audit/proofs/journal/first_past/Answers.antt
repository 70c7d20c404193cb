use Rattle.std.proofs.Common.{ap, count_by, arith}
use Rattle.act_audit.proofs.Scripts.{script-entries}
use Rattle.act_audit.proofs.journal.first_past.Goals as goal
use Rattle.act_model.specs.Journal.{is_append}
use Rattle.act_model.specs.declared.journal.Line.{Line}

pub ask_past-requires-clause-few : goal.ask_past-requires-clause-few
ask_past-requires-clause-few c =
    omega (arith, ap (count_by (λ (line : Line). is_append line.step)) c.requires.script, script-entries 2 c.args.items.now, c.in-None.ensures.few)

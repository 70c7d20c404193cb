use Rattle.act_print.proofs.item.entry_line.Goals as goal

pub returns-in-Event-clause-ok : goal.returns-in-Event-clause-ok
returns-in-Event-clause-ok c =
    rw c.in-Event.is (rw c.contract_name.ensures.text at c.event_line.ensures.ok)

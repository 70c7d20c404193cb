use Rattle.std.specs.Prelude.{codes, decimal}
use Rattle.act_date.specs.Text.{date_text}
use Rattle.act_print.specs.Text.{kind_text, value_text}
use Rattle.act_text.proofs.PutTogether.{ended}
use Rattle.act_print.proofs.PutTogether.{event_put}
use Rattle.act_print.proofs.item.event_line.Goals as goal

pub returns-clause-ok : goal.returns-clause-ok
returns-clause-ok c =
    ended c.end.result _ _ _ _ c.end.ensures.ok
    (event_put _ _ _ _ _ _ _ (decimal c.args.caller) (codes "event") c.args.contract.now _ (kind_text c.args.kind) (date_text c.args.day) (value_text c.args.kind c.args.value) c.caller_line-line.ensures.text c.push_word.ensures.text c.push_name.ensures.text c.push_word-2.ensures.text c.kind_word.ensures.text c.push_bytes.ensures c.push_day.ensures.text c.push_value.ensures.text)

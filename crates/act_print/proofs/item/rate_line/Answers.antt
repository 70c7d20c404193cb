use Rattle.std.specs.Prelude.{codes, decimal}
use Rattle.act_date.specs.Text.{date_text}
use Rattle.act_num.specs.Decimal.{printed}
use Rattle.act_text.proofs.PutTogether.{ended}
use Rattle.act_print.proofs.PutTogether.{rate_put}
use Rattle.act_print.proofs.item.rate_line.Goals as goal

pub returns-clause-ok : goal.returns-clause-ok
returns-clause-ok c =
    ended c.end.result _ _ _ _ c.end.ensures.ok
    (rate_put _ _ _ _ _ _ (decimal c.args.caller) (codes "rate") c.args.code.now (date_text c.args.day) (printed c.args.value) c.caller_line-line.ensures.text c.push_word.ensures.text c.push_name.ensures.text c.push_bytes.ensures c.push_day.ensures.text c.push_number.ensures.text)

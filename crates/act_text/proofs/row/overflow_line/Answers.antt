use Rattle.std.specs.Prelude.{codes}
use Rattle.act_date.specs.Text.{date_text}
use Rattle.act_text.proofs.PutTogether.{ended, overflow_put}
use Rattle.act_text.proofs.row.overflow_line.Goals as goal

pub returns-clause-ok : goal.returns-clause-ok
returns-clause-ok c =
    ended c.end.result _ _ _ _ c.end.ensures.ok
    (overflow_put _ _ _ _ (codes "overflow") (date_text c.args.day) _ c.new-line.ensures c.push_bytes.ensures c.push_day.ensures.text c.push_type.ensures.text)

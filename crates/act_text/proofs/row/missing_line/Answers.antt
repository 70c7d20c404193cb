use Rattle.std.specs.Prelude.{codes}
use Rattle.act_date.specs.Text.{date_text}
use Rattle.act_text.proofs.PutTogether.{ended, missing_put}
use Rattle.act_text.proofs.row.missing_line.Goals as goal

pub returns-clause-ok : goal.returns-clause-ok
returns-clause-ok c =
    ended c.end.result _ _ _ _ c.end.ensures.ok
    (missing_put _ _ _ _ _ (codes "missing") _ (date_text c.args.day) c.new-line.ensures c.push_bytes.ensures c.push_name.ensures.text c.push_bytes-2.ensures c.push_day.ensures.text)

use Rattle.std.specs.Prelude.{codes, decimal}
use Rattle.act_print.specs.Text.{answer_head_text}
use Rattle.act_print.proofs.PutTogether.{head_put}
use Rattle.act_print.proofs.heads.answer_line.Goals as goal

pub returns-clause-text : goal.returns-clause-text
unfolding answer_head_text
returns-clause-text c =
    head_put _ _ _ _ _ (codes "answer") (decimal c.args.caller) (decimal c.args.number) (decimal c.args.version) c.new-line.ensures c.push_bytes.ensures c.push_count.ensures.text c.push_count-2.ensures.text c.push_count-3.ensures.text

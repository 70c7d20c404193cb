use Rattle.std.proofs.Common.{◌∙◌, arith}
use Rattle.act_num.proofs.Padded.{drop_later}
use Rattle.act_num.proofs.text.put_four.Goals as goal

pub returns-clause-rest : goal.returns-clause-rest
returns-clause-rest c =
    c.put_pair.ensures.rest
    ∙ drop_later _ _ c.put_pair-end.result _ c.put_pair-end.ensures.rest (omega arith)

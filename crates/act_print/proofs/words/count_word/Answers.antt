use Rattle.std.proofs.Common.{◌∙◌, ap}
use Rattle.std.specs.Bool.{then_some}
use Rattle.act_print.proofs.PlainWords.{counted, uncounted}
use Rattle.act_print.proofs.words.count_word.Goals as goal

pub returns-in_err-count : goal.returns-in_err-count
returns-in_err-count c = c.from_residual.ensures ∙ uncounted c.args.word.now c.plain_count.result c.plain_count.ensures.count c.in_err-count.was

pub returns : goal.returns
returns c =
    c.then_some.ensures ∙ ap (λ b. then_some b c.in_ok-count.count) c.is_count.ensures ∙ (counted c.args.word.now c.plain_count.result c.plain_count.ensures.count c.in_ok-count.count c.in_ok-count.was c.in_ok-count.ensures.bound)

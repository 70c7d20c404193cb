use Rattle.std.proofs.Common.{◌∙◌}
use Rattle.act_print.proofs.PlainWords.{not_counted, text_is, parsed, parsed_bound}
use Rattle.act_print.proofs.words.plain_count.Goals as goal

pub returns-in_err-text-clause-count : goal.returns-in_err-text-clause-count
returns-in_err-text-clause-count c = rw c.from_residual.ensures (not_counted c.args.word.now _ c.from_utf8.result c.from_utf8.ensures.cases c.in_err-text.ensures.value)

pub returns-clause-count : goal.returns-clause-count
returns-clause-count c = λ count small e.
    c.ok-2.ensures.value ∙ parsed c.args.word.now c.in_ok-text.text.now c.parse.result (text_is c.args.word.now _ c.from_utf8.result c.from_utf8.ensures.cases c.in_ok-text.text c.in_ok-text.ensures.value) c.parse.ensures.value.0 count small e

pub returns-clause-bound : goal.returns-clause-bound
returns-clause-bound c = rw c.ok-2.ensures.value (parsed_bound c.in_ok-text.text.now c.parse.result c.parse.ensures.value.0)

use Rattle.std.proofs.Common.{rules, tests, option_map, string_bytes, sym, ap, ◌∙◌, arith}
use Rattle.act_model.specs.Limits.{most_workers}
use Rattle.act_top.specs.Words.{big_of, command_told, most_size, number_of_word}
use Rattle.act_top.proofs.Wording.{fewer-words, more-words, no-size, no-workers, number-within, some-big, two-words}
use Rattle.act_top.proofs.words.Command.big.Goals as goal
use Rattle.act_top.proofs.words.Command.big.Goals.{in_default-via-then-words-lt2, in_default-via-else-words-lt2+else-words-lt3}

pub returns-in_default-clause-command : goal.returns-in_default-clause-command
returns-in_default-clause-command c = elim c.in_default.branch [
  | in_default-via-then-words-lt2 w ↦ sym (fewer-words c.args.words.now (search (rules, tests)))
  | in_default-via-else-words-lt2+else-words-lt3 w ↦ sym (more-words c.args.words.now (search (rules, tests)))
]

pub returns-in_err-size-clause-command : goal.returns-in_err-size-clause-command
returns-in_err-size-clause-command c =
    let words = two-words c.args.words.now c.size-item.result c.workers-item.result (omega (arith, c.in-len2.len_at_least, c.in-len2.len_below)) c.size-item.is c.workers-item.is in
    let none = no-size (string_bytes c.size-item.result) (string_bytes c.workers-item.result)
    (ap (number_of_word most_size) (sym c.as_str.ensures.value) ∙ (sym c.number_of_word.ensures ∙ c.in_err-size.was)) in
    ap (option_map command_told) c.from_residual.ensures ∙ sym (ap big_of words ∙ none)

pub returns-in_err-workers-clause-command : goal.returns-in_err-workers-clause-command
returns-in_err-workers-clause-command c =
    let words = two-words c.args.words.now c.size-item.result c.workers-item.result (omega (arith, c.in-len2.len_at_least, c.in-len2.len_below)) c.size-item.is c.workers-item.is in
    let none = no-workers (string_bytes c.size-item.result) (string_bytes c.workers-item.result)
    (ap (number_of_word most_workers) (sym c.as_str-2.ensures.value) ∙ (sym c.number_of_word-2.ensures ∙ c.in_err-workers.was)) in
    ap (option_map command_told) c.from_residual-in_err-workers.ensures ∙ sym (ap big_of words ∙ none)

pub returns-clause-command : goal.returns-clause-command
returns-clause-command c =
    let words = two-words c.args.words.now c.size-item.result c.workers-item.result (omega (arith, c.in-len2.len_at_least, c.in-len2.len_below)) c.size-item.is c.workers-item.is in
    let size = ap (number_of_word most_size) (sym c.as_str.ensures.value) ∙ (sym c.number_of_word.ensures ∙ c.in_ok-size.was) in
    let workers = ap (number_of_word most_workers) (sym c.as_str-2.ensures.value) ∙ (sym c.number_of_word-2.ensures ∙ c.in_ok-workers.was) in
    sym (ap big_of words ∙ some-big (string_bytes c.size-item.result) (string_bytes c.workers-item.result) c.in_ok-size.size c.in_ok-workers.workers size workers)

pub returns-clause-within : goal.returns-clause-within
returns-clause-within c =
    let size = number-within c.as_str.result.now most_size c.in_ok-size.size (sym c.number_of_word.ensures ∙ c.in_ok-size.was) in
    let workers = number-within c.as_str-2.result.now most_workers c.in_ok-workers.workers (sym c.number_of_word-2.ensures ∙ c.in_ok-workers.was) in
    (size.0, size.1, workers.1)

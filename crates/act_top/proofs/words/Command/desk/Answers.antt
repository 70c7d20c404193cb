use Rattle.std.proofs.Common.{◌-◌, Global, length, map, option_map, string_bytes, take, drop, sym, ap, ◌∙◌, arith}
use Rattle.std.proofs.lemmas.List.{length-map}
use Rattle.act_model.specs.Limits.{most_workers}
use Rattle.act_top.specs.Words.{command_told, desk_of, number_of_word}
use Rattle.act_top.proofs.Wording.{few-words, no-number, not-empty, number-within, script-count, some-words, split-words}
use Rattle.act_top.proofs.words.Command.desk.Goals as goal

pub returns-in_default-clause-command : goal.returns-in_default-clause-command
returns-in_default-clause-command c = sym (few-words c.args.words.now c.in_default.len_below)

pub returns-in_err-workers-clause-command : goal.returns-in_err-workers-clause-command
returns-in_err-workers-clause-command c =
    let words = split-words c.args.words.now c.workers-item.result c.portfolio-item.result c.in-len2-up.len_at_least c.workers-item.is c.portfolio-item.is in
    let none = no-number (string_bytes c.workers-item.result) (string_bytes c.portfolio-item.result) (map string_bytes (take (length c.args.words.now - 2) (drop 2 c.args.words.now)))
    (ap (number_of_word most_workers) (sym c.as_str.ensures.value) ∙ (sym c.number_of_word.ensures ∙ c.in_err-workers.was)) in
    ap (option_map command_told) c.from_residual.ensures ∙ sym (ap desk_of words ∙ none)

pub returns-clause-command : goal.returns-clause-command
returns-clause-command c =
    let scripts = take (length c.args.words.now - 2) (drop 2 c.args.words.now) in
    let words = split-words c.args.words.now c.workers-item.result c.portfolio-item.result c.in-len2-up.len_at_least c.workers-item.is c.portfolio-item.is in
    let some = not-empty (length scripts) c.is_empty.result c.is_empty.ensures c.if-is_empty.false in
    let same = length-map scripts (string_bytes {Z = Global}) in
    let count = script-count (length (map (string_bytes {Z = Global}) scripts)) (omega (arith, same, some)) (omega (arith, same, c.if-scripts-gt-MOST_CALLERS.false)) in
    let number = ap (number_of_word most_workers) (sym c.as_str.ensures.value) ∙ (sym c.number_of_word.ensures ∙ c.in_ok-workers.was) in
    let told = some-words (string_bytes c.workers-item.result) (string_bytes c.portfolio-item.result) (map (string_bytes {Z = Global}) scripts) c.in_ok-workers.workers count number in
    sym (ap desk_of words ∙ rw c.as_str-2.ensures.value told)

pub returns-clause-within : goal.returns-clause-within
returns-clause-within c =
    let scripts = take (length c.args.words.now - 2) (drop 2 c.args.words.now) in
    let within = number-within c.as_str.result.now most_workers c.in_ok-workers.workers (sym c.number_of_word.ensures ∙ c.in_ok-workers.was) in
    let some = not-empty (length scripts) c.is_empty.result c.is_empty.ensures c.if-is_empty.false in
    let same = length-map scripts (string_bytes {Z = Global}) in
    (within.1, omega (arith, same, some), omega (arith, same, c.if-scripts-gt-MOST_CALLERS.false))

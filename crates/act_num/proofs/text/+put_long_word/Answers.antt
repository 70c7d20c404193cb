use Rattle.std.proofs.Common.{◌++◌, ◌/◌, ◌%◌, List, ℕ, decimal, take, ap, append_assoc, ◌∙◌, arith}
use Rattle.std.proofs.lemmas.Fmt.{length-decimal-le}
use Rattle.act_num.specs.Digits.{padded_digits}
use Rattle.act_num.proofs.Padded.{drop_later}
use Rattle.act_num.proofs.Pairs.{four_more, length-four_more}
use Rattle.act_num.proofs.text.+put_long_word.Goals as goal

pub put_four-requires-clause-room : goal.put_four-requires-clause-room
put_four-requires-clause-room t c =
    let size = length-four_more c.args.number (omega arith) (omega arith) in
    omega (arith, size, c.requires, c.put_long_word-end.ensures.end, length-decimal-le 20 c.args.number (omega arith) (omega arith) (omega arith))

pub returns-clause-end : goal.returns-clause-end
returns-clause-end t c =
    omega (arith, length-four_more c.args.number (omega arith) (omega arith), c.put_long_word-end.ensures.end, c.put_four.ensures.end)

pub returns-clause-written : goal.returns-clause-written
returns-clause-written t c =
    c.put_four.ensures.written
    ∙ ap (λ (xs : List ℕ). xs ++ padded_digits 4 (c.args.number % 10000)) c.put_long_word-end.ensures.written
    ∙ append_assoc (take c.args.at c.args.out.now) (decimal (c.args.number / 10000)) (padded_digits 4 (c.args.number % 10000))
    ∙ ap (λ (xs : List ℕ). take c.args.at c.args.out.now ++ xs) (four_more c.args.number (omega arith) (omega arith))

pub returns-clause-rest : goal.returns-clause-rest
returns-clause-rest t c =
    c.put_four.ensures.rest
    ∙ drop_later _ _ c.put_long_word-end.result _ c.put_long_word-end.ensures.rest (omega arith)

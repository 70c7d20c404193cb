use Rattle.std.proofs.Common.{◌++◌, ◌/◌, ◌%◌, List, ℕ, length, take, ap, append_assoc, ◌∙◌, arith}
use Rattle.act_num.specs.Digits.{padded_digits}
use Rattle.act_num.proofs.Padded.{drop_later}
use Rattle.act_num.proofs.Pairs.{one_digit, two_digits, three_digits, four_digits}
use Rattle.act_num.proofs.text.put_short_word.Goals as goal

pub returns-then-number-lt10-clause-end : goal.returns-then-number-lt10-clause-end
returns-then-number-lt10-clause-end c = omega (arith, ap length (one_digit c.args.number (omega arith)))

pub returns-then-number-lt10-clause-written : goal.returns-then-number-lt10-clause-written
returns-then-number-lt10-clause-written c =
    c.put_digit.ensures.written ∙ ap (λ (xs : List ℕ). take c.args.at c.args.out.now ++ xs) (one_digit c.args.number (omega arith))

pub returns-then-number-lt100-clause-end : goal.returns-then-number-lt100-clause-end
returns-then-number-lt100-clause-end c = omega (arith, ap length (two_digits c.args.number (omega arith) (omega arith)))

pub returns-then-number-lt100-clause-written : goal.returns-then-number-lt100-clause-written
returns-then-number-lt100-clause-written c =
    c.put_pair.ensures.written ∙ ap (λ (xs : List ℕ). take c.args.at c.args.out.now ++ xs) (two_digits c.args.number (omega arith) (omega arith))

pub returns-then-number-lt1000-clause-end : goal.returns-then-number-lt1000-clause-end
returns-then-number-lt1000-clause-end c = omega (arith, ap length (three_digits c.args.number (omega arith) (omega arith)))

pub returns-then-number-lt1000-clause-written : goal.returns-then-number-lt1000-clause-written
returns-then-number-lt1000-clause-written c =
    c.put_pair-then-number-lt1000.ensures.written
    ∙ ap (λ (xs : List ℕ). xs ++ padded_digits 2 (c.args.number % 100)) c.put_digit-end.ensures.written
    ∙ append_assoc (take c.args.at c.args.out.now) (padded_digits 1 (c.args.number / 100)) (padded_digits 2 (c.args.number % 100))
    ∙ ap (λ (xs : List ℕ). take c.args.at c.args.out.now ++ xs) (three_digits c.args.number (omega arith) (omega arith))

pub returns-then-number-lt1000-clause-rest : goal.returns-then-number-lt1000-clause-rest
returns-then-number-lt1000-clause-rest c =
    c.put_pair-then-number-lt1000.ensures.rest
    ∙ drop_later _ _ c.put_digit-end.result _ c.put_digit-end.ensures.rest (omega arith)

pub returns-else-number-lt1000-clause-end : goal.returns-else-number-lt1000-clause-end
returns-else-number-lt1000-clause-end c = omega (arith, ap length (four_digits c.args.number (omega arith) (omega arith)))

pub returns-else-number-lt1000-clause-written : goal.returns-else-number-lt1000-clause-written
returns-else-number-lt1000-clause-written c =
    c.put_four.ensures.written ∙ ap (λ (xs : List ℕ). take c.args.at c.args.out.now ++ xs) (four_digits c.args.number (omega arith) (omega arith))

use Rattle.std.proofs.Common.{List, ℕ, ◌/◌, ◌%◌, ◌++◌, take, codes, ap, append_assoc, sym, ◌∙◌, arith}
use Rattle.act_num.specs.Decimal.{fraction_text}
use Rattle.act_num.specs.Digits.{padded_digits}
use Rattle.std.proofs.lemmas.List.{take_more_set, drop-set-lt}
use Rattle.act_num.proofs.Padded.{drop_later}
use Rattle.act_num.proofs.Pairs.{point_and_digits}
use Rattle.act_num.proofs.text.put_fraction.Goals as goal

pub returns-then-units-eq0-clause-written : goal.returns-then-units-eq0-clause-written
unfolding fraction_text
returns-then-units-eq0-clause-written c =
    c.put.ensures.written
    ∙ sym (append_assoc (take c.args.at c.args.out.now) (codes ".") (fraction_text 0))
    ∙ ap (λ n. take c.args.at c.args.out.now ++ codes "." ++ fraction_text n) (sym c.if-units-eq0.true)

pub returns-clause-written : goal.returns-clause-written
returns-clause-written c =
    c.put_four.ensures.written
    ∙ ap (λ (xs : List ℕ). xs ++ padded_digits 4 (c.args.units % 10000)) c.put_four-end.ensures.written
    ∙ ap (λ (xs : List ℕ). (xs ++ padded_digits 4 (c.args.units / 10000 % 10000)) ++ padded_digits 4 (c.args.units % 10000)) c.put_digit-end.ensures.written
    ∙ ap (λ (xs : List ℕ). ((xs ++ padded_digits 1 (c.args.units / 10000 / 10000)) ++ padded_digits 4 (c.args.units / 10000 % 10000)) ++ padded_digits 4 (c.args.units % 10000)) (take_more_set c.args.out.now c.args.at 46 (omega arith))
    ∙ point_and_digits (take c.args.at c.args.out.now) c.args.units c.requires.fraction

pub returns-clause-rest : goal.returns-clause-rest
returns-clause-rest c =
    c.put_four.ensures.rest
    ∙ drop_later _ _ c.put_four-end.result _ c.put_four-end.ensures.rest (omega arith)
    ∙ drop_later _ _ c.put_digit-end.result _ c.put_digit-end.ensures.rest (omega arith)
    ∙ drop-set-lt _ c.args.out.now c.args.at 46 (omega arith)

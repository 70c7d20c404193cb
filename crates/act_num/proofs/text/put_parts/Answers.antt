use Rattle.std.proofs.Common.{◌≡◌, ℕ, ℤ, to_z, of_z, ◌++◌, ◌/◌, ◌%◌, codes, decimal, length, unsigned_abs, ap, length-append, ◌∙◌, arith}
use Rattle.std.specs.Int.{w128}
use Rattle.std.proofs.lemmas.Int.{ints}
use Rattle.act_num.specs.Decimal.{fraction_text, printed, sign_text}
use Rattle.act_num.specs.Number.{one}
use Rattle.act_num.proofs.Padded.{drop_later, length-fraction_text}
use Rattle.act_num.proofs.text.put_parts.Goals as goal

pub returns-clause-end : goal.returns-clause-end
unfolding printed
returns-clause-end c =
    let units = c.args.units in
    let whole = decimal (unsigned_abs units / one) in
    let fraction = fraction_text (unsigned_abs units % one) in
    let front = length-append (sign_text units) whole in
    let point = length-append (sign_text units ++ whole) (codes ".") in
    let all = length-append (sign_text units ++ whole ++ codes ".") fraction in
    let given : to_z w128 (of_z w128 units) ≡ units = omega (arith, ints, c.requires.in_range) in
    let sign = ap (λ (z : ℤ). length (sign_text z)) given in
    let size = ap (λ (n : ℕ). length (decimal (n / one))) (c.unsigned_abs.ensures.value ∙ ap unsigned_abs given) in
    let front = length-append (sign_text units) whole in
    let point = length-append (sign_text units ++ whole) (codes ".") in
    let all = length-append (sign_text units ++ whole ++ codes ".") fraction in
    let same : c.unsigned_abs.result ≡ unsigned_abs units = omega (arith, ints, c.unsigned_abs.ensures.value, c.requires.in_range) in
    let size = ap (λ (n : ℕ). length (decimal (n / one))) same in
    omega (arith, sign, size, front, point, all, length-fraction_text (unsigned_abs units % one), c.put_fraction.ensures.end, c.put_whole-end.ensures.end, c.put_sign-end.ensures.end)

pub returns-clause-rest : goal.returns-clause-rest
returns-clause-rest c =
    c.put_fraction.ensures.rest
    ∙ drop_later _ _ c.put_whole-end.result.0 _ c.put_whole-end.ensures.rest (omega arith)
    ∙ drop_later _ _ c.put_sign-end.result _ c.put_sign-end.ensures.rest (omega arith)

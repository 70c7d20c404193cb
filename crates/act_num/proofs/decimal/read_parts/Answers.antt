use Rattle.std.proofs.Common.{◌≡◌, option_map, Some, None, to_z, of_z, w32, ap, ◌∙◌, arith}
use Rattle.std.proofs.lemmas.Int.{ints}
use Rattle.act_num.specs.Parts.{parts_of}
use Rattle.act_num.proofs.Reading.{too_long, no_digits, no_fraction, parts_read, parts_short, with_exponent}
use Rattle.act_num.proofs.decimal.read_parts.Goals as goal

pub returns-then-text-gt-MOST_BYTES-clause-value : goal.returns-then-text-gt-MOST_BYTES-clause-value
returns-then-text-gt-MOST_BYTES-clause-value c = too_long c.args.text.now c.if-text-gt-MOST_BYTES.true

pub returns-then-is_empty-clause-value : goal.returns-then-is_empty-clause-value
returns-then-is_empty-clause-value c =
    no_digits c.args.text.now c.split_sign-negative.ensures.rest c.split_digits.ensures.digits c.if-is_empty.ensures

pub returns-in_err-fraction-clause-value : goal.returns-in_err-fraction-clause-value
returns-in_err-fraction-clause-value c =
    ap (option_map parts_of) c.from_residual.ensures
    ∙ no_fraction c.args.text.now c.split_sign-negative.ensures.rest c.split_digits.ensures.rest c.in_err-fraction.ensures.none

pub returns-in_err-exponent-clause-value : goal.returns-in_err-exponent-clause-value
returns-in_err-exponent-clause-value c =
    ap (option_map parts_of) c.from_residual-in_err-exponent.ensures
    ∙ parts_read c.args.text.now c.if-text-gt-MOST_BYTES.false c.split_sign-negative.ensures.rest c.split_digits.ensures.digits c.split_digits.ensures.rest c.if-is_empty.ensures c.in_ok-fraction.ensures.none c.in_ok-fraction.ensures.digits c.in_ok-fraction.ensures.rest c.split_sign-negative.result.0 c.split_sign-negative.ensures.negative None c.in_err-exponent.ensures.value

pub returns-clause-value : goal.returns-clause-value
returns-clause-value c =
    let e = c.in_ok-exponent.exponent in
    let cast : to_z w32 (of_z w32 e) ≡ e = omega (arith, ints, c.in_ok-exponent.ensures.bound) in
    ap (λ z. with_exponent c.split_sign-negative.result.0 c.split_digits.result.0.now c.in_ok-fraction.fraction.now (Some z)) cast
    ∙ parts_read c.args.text.now c.if-text-gt-MOST_BYTES.false c.split_sign-negative.ensures.rest c.split_digits.ensures.digits c.split_digits.ensures.rest c.if-is_empty.ensures c.in_ok-fraction.ensures.none c.in_ok-fraction.ensures.digits c.in_ok-fraction.ensures.rest c.split_sign-negative.result.0 c.split_sign-negative.ensures.negative (Some e) c.in_ok-exponent.ensures.value

pub returns-clause-readable : goal.returns-clause-readable
returns-clause-readable c = record {
  whole = c.split_digits.ensures.are_digits;
  fraction = c.in_ok-fraction.ensures.are_digits;
  short = parts_short c.args.text.now c.if-text-gt-MOST_BYTES.false c.split_sign-negative.ensures.rest c.split_digits.ensures.digits c.split_digits.ensures.rest c.in_ok-fraction.ensures.digits;
  exponent = omega (arith, ints, c.in_ok-exponent.ensures.bound);
}

use Rattle.std.proofs.Common.{◌≤◌, length, arith, sym}
use Rattle.std.proofs.lemmas.Bool.Decides.{nat_tests}
use Rattle.act_num.proofs.Forms.{one_more, short_is}
use Rattle.act_num.proofs.decimal.short_number.Goals as goal

pub loop-byte-preserved : goal.loop-byte-preserved
loop-byte-preserved c =
    let more = one_more c.args.text.now c.loop-byte.byte-index c.loop-byte-test.true c.loop-byte.invariant.1 (sym c.if-not-is_ascii_digit.ensures.value) in
    (omega (arith, more.value), more.digits)

pub returns : goal.returns
returns c =
    let some : 1 ≤ length c.args.text.now = grind (arith, nat_tests, c.if-is_empty.ensures) in
    short_is c.args.text.now c.loop-byte.byte-index c.loop-byte.value c.loop-byte-test.false some c.if-text-gt3.false c.loop-byte.invariant.0 c.loop-byte.invariant.1

use Rattle.std.proofs.Common.{sym, ap, ◌∙◌, arith, bytes_eq}
use Rattle.act_top.proofs.Wording.{number-next}
use Rattle.act_top.proofs.words.number_of_word.Goals as goal

pub loop-number-preserved : goal.loop-number-preserved
loop-number-preserved c =
    let other = ap (bytes_eq c.args.word.now) (sym c.format.ensures.text) ∙ (sym c.eq.ensures ∙ c.if-eq.false) in
    number-next c.args.word.now c.args.most c.loop-number.number (omega (arith, c.loop-number-test.true)) other ∙ c.loop-number.invariant

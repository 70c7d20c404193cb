use Rattle.std.proofs.Common.{arith}
use Rattle.act_model.proofs.Alike.{alike_more}
use Rattle.act_model.proofs.chunk.count_alike.Goals as goal

pub loop-place-preserved : goal.loop-place-preserved
loop-place-preserved c = record {
  from = omega (arith, c.loop-place.invariant.from);
  alike =
      alike_more c.args.shared.now c.args.other_shared.now c.args.one.now c.args.other.now c.loop-place.place c.index-one-place.result c.index-other-place.result (omega arith) (omega arith) c.index-one-place.is c.index-other-place.is
      (c.are_alike.ensures c.if-not-are_alike.false) c.loop-place.invariant.alike;
}

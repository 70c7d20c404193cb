use Rattle.std.proofs.Common.{◌<◌, List, Some, Vec, length, map, refl, ap, sym, ◌∙◌, arith}
use Rattle.std.specs.declared.alloc.Global.{Global}
use Rattle.act_session.proofs.Moving.{answers-more, kept-next, passes-set}
use Rattle.act_session.proofs.seats.take_answers.Goals as goal

pub loop-place-preserved : goal.loop-place-preserved
loop-place-preserved g c =
    let within : c.loop-place.place < length c.loop-place.actors = omega (arith, c.loop-place-test.true, c.requires.count, c.loop-place.auto.actors) in
    record {
      passes = passes-set c.loop-place.actors c.loop-place.place _ c.index-actors-place.result refl ∙ c.loop-place.invariant.passes;
      kept = kept-next c.loop-place.actors c.args.actors.now c.loop-place.place c.loop-place.invariant.kept _;
      all =
          ap (λ (xs : List (Vec g.row.A.Denot Global)). map Some xs) c.push_reserved.ensures.items
          ∙ answers-more c.loop-place.actors c.args.actors.now c.loop-place.place c.loop-place.invariant.kept c.index-actors-place.result c.loop-place.all.items c.in_ok-own.own
          (omega (arith, c.loop-place.auto.actors)) within (sym c.take.ensures.value ∙ c.in_ok-own.was) c.loop-place.invariant.all;
      count = omega (arith, c.push_reserved.ensures.len, c.loop-place.invariant.count);
      room = omega (arith, c.push_reserved.ensures.capacity, c.loop-place.invariant.room);
    }

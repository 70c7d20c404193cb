use Rattle.std.proofs.Common.{◌≡◌, ◌<◌, ◌==◌, not, cond, ℕ, length, refl, arith, vec_capacity}
use Rattle.act_keeping.proofs.Freed.{blocked-set, lowers-last, lowers-more, room-last}
use Rattle.act_keeping.proofs.ready.lower.Goals as goal

pub put_place-requires-clause-room : goal.put_place-requires-clause-room
put_place-requires-clause-room c =
    let n = c.requires.waits.0 in
    let none : ◌≡◌ {A = ℕ} (cond (not (0 == 0)) 1 0) 0 = refl in
    let fits : length c.args.ready.now.places.items < vec_capacity c.args.ready.now.places = omega (arith, c.requires.room, blocked-set c.args.ready.now.lacking.items c.args.place n 0 c.requires.waits.1, none) in
    fits

pub returns-then-index-eq0-clause-lowered : goal.returns-then-index-eq0-clause-lowered
returns-then-index-eq0-clause-lowered c =
    lowers-last c.args.ready.now.lacking.items c.args.place c.requires.waits.0 c.index_mut.result.now c.index.result.now c.requires.waits.1 c.index_mut.ensures.value c.index.ensures
    c.args.ready.now.places.items c.put_place.new.places.items c.if-index-eq0.true c.put_place.ensures.placed

pub returns-then-index-eq0-clause-room : goal.returns-then-index-eq0-clause-room
returns-then-index-eq0-clause-room c =
    omega (
      arith,
      c.requires.room,
      c.put_place.ensures.kept,
      room-last c.args.ready.now.lacking.items c.args.place c.requires.waits.0 c.index_mut.result.now c.index.result.now c.requires.waits.1 c.index_mut.ensures.value c.index.ensures
          c.args.ready.now.places.items c.put_place.new.places.items c.if-index-eq0.true c.put_place.ensures.placed,
    )

pub returns-else-index-eq0-clause-lowered : goal.returns-else-index-eq0-clause-lowered
returns-else-index-eq0-clause-lowered c =
    lowers-more c.args.ready.now.lacking.items c.args.place c.requires.waits.0 c.index_mut.result.now c.index.result.now c.requires.waits.1 c.index_mut.ensures.value c.index.ensures
    c.args.ready.now.places.items c.if-index-eq0.false

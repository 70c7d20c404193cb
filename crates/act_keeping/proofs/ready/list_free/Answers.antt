use Rattle.std.proofs.Common.{◌≡◌, ◌+◌, ◌-◌, ℕ, List, drop, length, sym, ap, subst, arith}
use Rattle.act_keeping.specs.Ready.{AreFreeFrom, blocked}
use Rattle.act_keeping.proofs.Freed.{blocked-drop_free, blocked-drop_more, blocked-end, blocked-front, free-all, free-more, free-none, free-past}
use Rattle.act_keeping.proofs.ready.list_free.Goals as goal

pub loop-place-init : goal.loop-place-init
loop-place-init c = record {
  within = omega arith;
  free = subst (λ (xs : List ℕ). AreFreeFrom c.args.pairs.now c.args.lacking.now (length c.args.pairs.now) xs) (sym c.clear.ensures.items) (free-none c.args.pairs.now c.args.lacking.now);
  fits = omega (arith, blocked-end c.args.lacking.now (length c.args.pairs.now) (omega (arith, c.requires.count)), c.clear.ensures.len);
  room = omega (arith, c.requires.room, c.clear.ensures.capacity);
}

pub loop-place-preserved-in-Ok-1 : goal.loop-place-preserved-in-Ok-1
loop-place-preserved-in-Ok-1 c =
    let p : ℕ = c.loop-place.place - 1 in
    let next : c.loop-place.place ≡ p + 1 = omega (arith, c.loop-place-test.true) in
    let is = c.is_free.ensures.yes c.if-is_free.true in
    let same : drop (p + 1) c.args.lacking.now ≡ drop c.loop-place.place c.args.lacking.now = ap (λ (k : ℕ). drop k c.args.lacking.now) (sym next) in
    record {
      within = omega (arith, c.loop-place.invariant.within);
      free = subst (λ (xs : List ℕ). AreFreeFrom c.args.pairs.now c.args.lacking.now p xs) (sym c.in-Ok.ensures.items) (free-more c.args.pairs.now c.args.lacking.now p c.loop-place.place c.loop-place.places.items next c.loop-place.invariant.free is);
      fits = omega (arith, c.loop-place.invariant.fits, c.in-Ok.ensures.len, blocked-drop_free c.args.lacking.now p is.3, ap blocked same, next);
      room = omega (arith, c.loop-place.invariant.room, c.push.ensures.capacity);
    }

pub loop-place-preserved : goal.loop-place-preserved
loop-place-preserved c =
    let p : ℕ = c.loop-place.place - 1 in
    let next : c.loop-place.place ≡ p + 1 = omega (arith, c.loop-place-test.true) in
    let same : drop (p + 1) c.args.lacking.now ≡ drop c.loop-place.place c.args.lacking.now = ap (λ (k : ℕ). drop k c.args.lacking.now) (sym next) in
    record {
      within = omega (arith, c.loop-place.invariant.within);
      free = free-past c.args.pairs.now c.args.lacking.now p c.loop-place.place c.loop-place.places.items next c.loop-place.invariant.free (c.is_free.ensures.no c.if-is_free.false);
      fits = omega (arith, c.loop-place.invariant.fits, blocked-drop_more c.args.lacking.now p (omega (arith, c.loop-place.invariant.within, c.requires.count, next)), ap blocked same, next);
      room = c.loop-place.invariant.room;
    }

pub returns-clause-free : goal.returns-clause-free
returns-clause-free c =
    free-all c.args.pairs.now c.args.lacking.now c.loop-place.place c.loop-place.places.items (λ k pair lt at. c.requires.past k pair (omega (arith, lt, c.loop-place-test.false)) at) c.loop-place.invariant.free

pub returns-clause-room : goal.returns-clause-room
returns-clause-room c =
    omega (arith, c.loop-place.invariant.fits, c.loop-place.invariant.room, blocked-front c.args.lacking.now c.loop-place.place (omega (arith, c.loop-place.invariant.within, c.requires.count)))

use Rattle.std.proofs.Common.{◌≡◌, ◌+◌, ◌-◌, ◌/◌, ◌<◌, true, false, Some, refl, sym, ◌∙◌, arith}
use Rattle.std.specs.List.{slice_get}
use Rattle.std.proofs.lemmas.Option.{slice_get_read}
use Rattle.act_keeping.specs.Keeping.{is_before}
use Rattle.act_keeping.proofs.Ordered.{lower, upper}
use Rattle.act_keeping.proofs.pair.place_by_halving.Goals as goal

pub loop-low-preserved-then-is_before : goal.loop-low-preserved-then-is_before
loop-low-preserved-then-is_before c =
    let middle = c.loop-low.low + (c.loop-low.high - c.loop-low.low) / 2 in
    let m = c.index-pairs-middle.result in
    let lt : middle < c.loop-low.high = omega (arith, c.loop-low-test.true) in
    let at : slice_get c.args.pairs.now middle ≡ Some m = slice_get_read c.args.pairs.now _ middle m refl (omega (arith, lt, c.loop-low.invariant.within)) c.index-pairs-middle.is in
    let is : is_before m c.args.version c.args.rank ≡ true = sym c.is_before.ensures ∙ c.if-is_before.true in
    record {
      order = omega (arith, lt);
      within = c.loop-low.invariant.within;
      before = lower c.args.pairs.now c.requires.sorted c.args.version c.args.rank middle m at is;
      behind = c.loop-low.invariant.behind;
    }

pub loop-low-preserved : goal.loop-low-preserved
loop-low-preserved c =
    let middle = c.loop-low.low + (c.loop-low.high - c.loop-low.low) / 2 in
    let m = c.index-pairs-middle.result in
    let lt : middle < c.loop-low.high = omega (arith, c.loop-low-test.true) in
    let at : slice_get c.args.pairs.now middle ≡ Some m = slice_get_read c.args.pairs.now _ middle m refl (omega (arith, lt, c.loop-low.invariant.within)) c.index-pairs-middle.is in
    let not : is_before m c.args.version c.args.rank ≡ false = sym c.is_before.ensures ∙ c.if-is_before.false in
    record {
      order = omega arith;
      within = omega (arith, lt, c.loop-low.invariant.within);
      before = c.loop-low.invariant.before;
      behind = upper c.args.pairs.now c.requires.sorted c.args.version c.args.rank middle m at not;
    }

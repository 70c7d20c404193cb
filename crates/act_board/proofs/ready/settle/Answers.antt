use Rattle.act_keeping.proofs.Freed.{settled-may, settled-next}
use Rattle.act_board.proofs.ready.settle.Goals as goal

pub note-requires-clause-lacks : goal.note-requires-clause-lacks
note-requires-clause-lacks c =
    settled-may c.args.portfolio.now.order c.args.parents.now c.requires.apart c.args.version c.loop-parent.parent-index c.rank.result c.loop-parent-test.true c.rank.ensures c.args.pairs.now c.requires.ranks c.args.ready.now.lacking.items c.loop-parent.ready.lacking.items
    c.requires.count c.loop-parent.invariant.settled c.requires.lack

pub loop-parent-preserved : goal.loop-parent-preserved
loop-parent-preserved c = record {
  count = c.note.ensures.count;
  free = c.note.ensures.free;
  settled = settled-next c.args.portfolio.now.order c.args.parents.now c.requires.apart c.args.version c.loop-parent.parent-index c.rank.result c.loop-parent-test.true c.rank.ensures c.args.pairs.now c.requires.ranks c.args.ready.now.lacking.items c.loop-parent.ready.lacking.items
      c.requires.count c.loop-parent.invariant.settled c.note.new.ready.lacking.items c.loop-parent.invariant.count c.note.ensures.noted;
  room = c.note.ensures.room;
}

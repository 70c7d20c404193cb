use Rattle.std.proofs.Common.{length, sym, arith}
use Rattle.act_refs.specs.Path.{child_lists}
use Rattle.act_refs.proofs.Paths.{length-child_lists}
use Rattle.act_refs.proofs.Reaching.{reached_all, reached_few, reached_start}
use Rattle.act_refs.proofs.distance.distances_from.Goals as goal

pub reached-init : goal.reached-init
reached-init c =
    let size = length-child_lists c.args.children.now in
    rw (c.in_ok-distances.ensures, (c.in_ok-reached.ensures).items) (reached_start (child_lists c.args.children.now) (length c.args.children.now) c.args.from (sym size) c.requires.exists)

pub reached-smaller : goal.reached-smaller
reached-smaller c =
    let size = length-child_lists c.args.children.now in
    omega (arith, reached_few (child_lists c.args.children.now) c.args.from c.reached.distances.items c.reached.reached.items c.reached.place c.reached.invariant)

pub returns : goal.returns
returns c =
    reached_all (child_lists c.args.children.now) c.args.from c.reached.distances.items c.reached.reached.items c.reached.place c.reached.invariant (omega arith)

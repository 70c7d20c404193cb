use Rattle.std.proofs.Common.{◌<◌, length, get_or, set, take, arith}
use Rattle.std.proofs.lemmas.List.{get_or_default, take_more}
use Rattle.act_refs.specs.Path.{child_lists}
use Rattle.act_refs.proofs.Paths.{length-child_lists}
use Rattle.act_refs.proofs.Turning.{child_lists-push}
use Rattle.act_keeping.proofs.Referring.{adds_one}
use Rattle.act_keeping.proofs.refer.add_parent.Goals as goal

pub loop-child-preserved : goal.loop-child-preserved
loop-child-preserved c =
    let children = c.args.children.now in
    let i = c.loop-child.child-index in
    let child = get_or children i 0 in
    let lists = c.loop-child.parents in
    let size = length-child_lists lists in
    let was = c.index-parents-child.result in
    let within : child < length lists = omega (arith, c.requires i 0 (omega arith)) in
    rw (take_more children i 0 (omega arith)) (adds_one (child_lists c.args.parents.now) (child_lists lists) (child_lists (set lists child c.push.new.self)) (take i children) c.args.parent child c.loop-child.invariant (omega arith)
    (child_lists-push lists child c.args.parent (get_or lists child was) c.push.new.self (get_or_default lists child was (get_or lists child was) within) (omega arith) (c.in_ok-push.ensures).items))

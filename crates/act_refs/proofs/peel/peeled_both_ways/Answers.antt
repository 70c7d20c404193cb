use Rattle.std.proofs.Common.{◌<◌, true, false, length, sym, ◌∙◌, arith}
use Rattle.std.proofs.lemmas.List.{get_or_default, length-set}
use Rattle.act_refs.specs.Path.{child_lists}
use Rattle.act_refs.proofs.Peeling.{marked_more, marked_turned}
use Rattle.act_refs.proofs.peel.peeled_both_ways.Goals as goal
use Rattle.act_refs.proofs.peel.peeled_both_ways.Goals.{then-index, else-index}

pub contracts-init : goal.contracts-init
contracts-init c = ((c.in_ok-on_no_cycle.ensures).count, (c.in_ok-on_no_cycle.ensures).peeled)

pub contracts-preserved : goal.contracts-preserved
contracts-preserved c =
    let graph = child_lists c.args.children.now in
    let turned = child_lists c.args.parents.now in
    let marks = c.in_ok-led_from_nowhere.led_from_nowhere.items in
    let within : c.contracts.contract < length marks = omega (arith, (c.in_ok-led_from_nowhere.ensures).count, c.requires.parents_count) in
    elim c.if-index.branch [
      | then-index w ↦
          let marked = get_or_default marks c.contracts.contract false c.index.result.now within ∙ sym c.index.ensures ∙ w.if-index.true in
          let none = marked_turned graph turned marks c.contracts.contract c.requires.turned (c.in_ok-led_from_nowhere.ensures).peeled marked in
          rw w.on_no_cycle-is (length-set c.contracts.on_no_cycle.items c.contracts.contract true ∙ c.contracts.invariant.0, marked_more graph c.contracts.on_no_cycle.items c.contracts.contract c.contracts.invariant.1 none)
      | else-index w ↦ rw w.on_no_cycle-is c.contracts.invariant
    ]

pub returns-clause-peeled : goal.returns-clause-peeled
returns-clause-peeled c = c.contracts.invariant.1

use Rattle.std.proofs.Common.{length}
use Rattle.act_script.specs.Asks.{line_lists}
use Rattle.act_script.specs.Weight.{all_asks}
use Rattle.act_script.proofs.Weighing.{asks_at, in_turn}
use Rattle.act_script.proofs.weight.weigh.Goals as goal

pub loop-place-init : goal.loop-place-init
loop-place-init c = in_turn (all_asks (record { weights = c.args.weights.now; all_weight = c.args.all.weight; all_contracts = c.args.all.contracts; events = c.args.events }) (line_lists c.args.scripts.now))

pub spend-requires : goal.spend-requires
spend-requires c = record {
  contracts = asks_at (length c.args.weights.now) c.args.scripts.now c.index-scripts-place.result c.deref.result.now c.loop-place.place c.requires.contracts c.loop-place-test.true c.index-scripts-place.is c.deref.ensures.value;
}

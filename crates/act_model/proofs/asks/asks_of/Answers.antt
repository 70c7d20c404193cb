use Rattle.act_model.specs.Asks.{asks_of, caller_asks}
use Rattle.act_model.proofs.AsksInTurn.{one_more}
use Rattle.act_model.proofs.asks.asks_of.Goals as goal

pub callers-preserved : goal.callers-preserved
callers-preserved c =
    one_more (caller_asks c.args.items.now) c.callers.asks.items c.push_asks.new.asks.items (asks_of c.args.items.now) c.callers.caller 17 c.callers-test.true c.in_ok-push_asks.ensures c.callers.invariant

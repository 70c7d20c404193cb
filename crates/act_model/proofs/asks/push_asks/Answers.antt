use Rattle.std.proofs.Common.{append-nil, sym, ◌∙◌}
use Rattle.std.proofs.lemmas.List.{drop_all}
use Rattle.act_model.proofs.AsksInTurn.{asks_in_turn}
use Rattle.act_model.proofs.asks.push_asks.Goals as goal

pub returns : goal.returns
returns c =
    let all = rw (drop_all c.items.item-index c.args.items.now c.items-test.false) at c.items.invariant.asks in
    rw (asks_in_turn c.args.items.now c.args.caller) (sym (append-nil c.items.asks.items) ∙ all)

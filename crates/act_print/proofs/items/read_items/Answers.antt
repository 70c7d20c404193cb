use Rattle.std.proofs.lemmas.Result.{err_from_is_err_and}
use Rattle.act_print.specs.Reading.{items_at}
use Rattle.act_print.proofs.Turns.{items_done, items_end, items_more}
use Rattle.act_print.proofs.items.read_items.Goals as goal

pub returns-in_err-push_item : goal.returns-in_err-push_item
returns-in_err-push_item c =
    let p = err_from_is_err_and c.from_residual.result c.from_residual.ensures.1 in
    rw (p.1, p.2) (items_end c.args.names.now c.items.items.items c.args.count c.items.counter c.items.reader (items_at c.args.names.now c.args.count c.args.reader.now) c.items.invariant _ c.push_item.new.self c.items-test.true c.in_err-push_item.ensures)

pub items-preserved : goal.items-preserved
items-preserved c =
    items_more c.args.names.now c.items.items.items c.args.count c.items.counter c.items.reader (items_at c.args.names.now c.args.count c.args.reader.now) c.items.invariant c.push_item.new.items.items c.push_item.new.self c.items-test.true c.in_ok-push_item.ensures

pub returns : goal.returns
returns c = items_done c.args.names.now c.items.items.items c.args.count c.items.counter c.items.reader (items_at c.args.names.now c.args.count c.args.reader.now) c.items.invariant c.items-test.false

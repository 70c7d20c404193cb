use Rattle.std.specs.List.{range_with_len}
use Rattle.std.proofs.lemmas.Result.{err_from_is_err_and}
use Rattle.act_print.specs.Reading.{blocks_at}
use Rattle.act_print.proofs.Turns.{blocks_done, blocks_end, blocks_more}
use Rattle.act_print.proofs.reader.Reader.blocks_below.Goals as goal

pub returns-in_err-block : goal.returns-in_err-block
returns-in_err-block c =
    let p = err_from_is_err_and c.from_residual.result c.from_residual.ensures.1 in
    rw (p.1, p.2) (blocks_end c.args.names.now c.contracts.blocks.items c.contracts.contract c.args.end c.contracts.self (blocks_at c.args.names.now (range_with_len 0 c.args.end) c.args.self.now) c.contracts.invariant _ c.block.new.self c.contracts-test.true c.in_err-block.ensures)

pub contracts-preserved : goal.contracts-preserved
contracts-preserved c =
    blocks_more c.args.names.now c.contracts.blocks.items c.contracts.contract c.args.end c.contracts.self (blocks_at c.args.names.now (range_with_len 0 c.args.end) c.args.self.now) c.contracts.invariant c.push.new.self.items c.in_ok-block.block c.block.new.self c.contracts-test.true c.in_ok-block.ensures c.in_ok-push.ensures.items

pub returns : goal.returns
returns c = blocks_done c.args.names.now c.contracts.blocks.items c.contracts.contract c.args.end c.contracts.self (blocks_at c.args.names.now (range_with_len 0 c.args.end) c.args.self.now) c.contracts.invariant c.contracts-test.false

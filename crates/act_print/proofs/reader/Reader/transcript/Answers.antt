use Rattle.std.proofs.Common.{◌≤◌, length, arith}
use Rattle.act_print.proofs.Whole.{few_items}
use Rattle.act_print.proofs.reader.Reader.transcript.Goals as goal

pub replies-requires-clause-few : goal.replies-requires-clause-few
replies-requires-clause-few c =
    let fewer : length c.in_ok-items.items.items ≤ length c.args.self.now = few_items c.args.names.now c.args.self.now c.journal.new.self c.in_ok-items.items.items c.in_ok-items.ensures in
    rw c.deref.ensures.value (omega (arith, fewer, c.requires.few))

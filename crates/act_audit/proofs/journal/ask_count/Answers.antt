use Rattle.std.proofs.Common.{arith}
use Rattle.act_audit.proofs.AskCounts.{ask-count}
use Rattle.act_audit.proofs.journal.ask_count.Goals as goal

pub returns : goal.returns
returns c = omega (arith, c.entry_count.ensures.count, ask-count c.args.items.now c.requires.from_one c.requires.to_most)

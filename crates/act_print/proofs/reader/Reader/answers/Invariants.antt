use Rattle.std.proofs.Common.{◌≡◌, drop}
use Rattle.act_print.specs.Reading.{answers_at}
use Rattle.act_print.proofs.Turns.{with_front}
use Rattle.act_print.proofs.reader.Reader.answers.Given as goal

abbrev pub invariant-asks : goal.invariant-asks
invariant-asks l = with_front l.answers.items (answers_at l.names (drop l.ask-index l.asks) l.self) ≡ answers_at l.names l.asks l.fn.self

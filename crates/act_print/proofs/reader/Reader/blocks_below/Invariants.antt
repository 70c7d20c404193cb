use Rattle.std.proofs.Common.{◌≡◌, ◌-◌}
use Rattle.std.specs.List.{range_with_len}
use Rattle.act_print.specs.Reading.{blocks_at}
use Rattle.act_print.proofs.Turns.{with_front}
use Rattle.act_print.proofs.reader.Reader.blocks_below.Given as goal

abbrev pub invariant-contracts : goal.invariant-contracts
invariant-contracts l = with_front l.blocks.items (blocks_at l.names (range_with_len l.contract (l.end - l.contract)) l.self) ≡ blocks_at l.names (range_with_len 0 l.end) l.fn.self

use Rattle.std.proofs.Common.{ℕ, ◌<◌}
use Rattle.std.specs.List.{All}
use Rattle.act_profile.specs.Reads as reads
use Rattle.act_board.proofs.latest.codes_read.Given as goal

-- those that the contracts before this one read
abbrev pub invariant-loop-contract : goal.invariant-loop-contract
invariant-loop-contract l = (c : ℕ) → c < l.contract → All (λ code. code < l.codes) (reads.codes_read l.portfolio.contracts c)

use Rattle.std.proofs.Common.{◌≡◌}
use Rattle.act_gen.specs.Draws.{state}
use Rattle.act_gen.proofs.draws.Draws.after.Given as goal

abbrev pub invariant-made : goal.invariant-made
invariant-made l = l.draws.state ≡ state l.seed l._k

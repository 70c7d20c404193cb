use Rattle.std.proofs.Common.{arith}
use Rattle.std.proofs.lemmas.Int.{ints}
use Rattle.act_loan.proofs.starting.divided.Goals as goal

pub rnd-requires-clause-divisor : goal.rnd-requires-clause-divisor
rnd-requires-clause-divisor c = grind (arith, ints)

pub returns : goal.returns
returns c = grind (arith, ints)

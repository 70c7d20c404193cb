use Rattle.std.proofs.Common.{◌≡◌, ◌*◌, ◌^◌, ◌≤◌}
use Rattle.act_num.specs.Number.{largest}
use Rattle.act_num.proofs.decimal.with_zeros.Given as goal

abbrev pub invariant-loop : goal.invariant-loop
invariant-loop l = (l.value ≡ l.number * 10 ^ l.counter) × (l.value ≤ largest)

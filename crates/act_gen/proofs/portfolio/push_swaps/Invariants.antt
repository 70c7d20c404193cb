use Rattle.std.proofs.Common.{◌≡◌, ◌%◌, ◌==◌, ◌++◌, map, filter}
use Rattle.act_gen.specs.Json.{after_commas}
use Rattle.act_gen.specs.Portfolio.{numbers, swap}
use Rattle.act_gen.proofs.portfolio.push_swaps.Given as goal

abbrev pub invariant-swaps : goal.invariant-swaps
invariant-swaps l = l.text.items ≡ l.initial.text.items ++ after_commas (map swap (filter (λ i. i % 3 == 0) (numbers l.before)))

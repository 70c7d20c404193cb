use Rattle.std.proofs.Common.{◌≡◌, ◌+◌, drop}
use Rattle.std.specs.List.{enumerate_from, flat_map}
use Rattle.act_script.specs.Asks.{line_lists}
use Rattle.act_script.specs.Spending.{overweight_behind}
use Rattle.act_script.specs.Weight.{all_asks, overweight, script_asks}
use Rattle.act_script.proofs.weight.weigh.Given as goal

abbrev pub invariant-loop-place : goal.invariant-loop-place
invariant-loop-place l =
    overweight (all_asks l.tariff (line_lists l.scripts))
    ≡ overweight_behind l.spent (flat_map (λ script. script_asks l.tariff script.0 script.1) (enumerate_from (l.place + 1) (line_lists (drop l.place l.scripts))))

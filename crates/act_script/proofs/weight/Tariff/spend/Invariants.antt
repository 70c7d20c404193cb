use Rattle.std.proofs.Common.{◌≡◌, List, ◌++◌, drop}
use Rattle.act_script.specs.Spending.{overweight_behind}
use Rattle.act_script.specs.Weight.{WeighedAsk, script_asks}
use Rattle.act_script.proofs.weight.Tariff.spend.Given as goal

abbrev pub invariant-loop-line : goal.invariant-loop-line
invariant-loop-line l = (others : List WeighedAsk) → overweight_behind l.before (script_asks l.self l.number l.script ++ others) ≡ overweight_behind l.spent (script_asks l.self l.number (drop l.line-index l.script) ++ others)

use Rattle.std.proofs.Common.{arith}
use Rattle.act_gen.proofs.Loops.{all_rates, one_rate_more}
use Rattle.act_gen.proofs.script.push_script.Goals as goal

pub rates-preserved : goal.rates-preserved
rates-preserved c =
    one_rate_more _ _ _ _ _ _ _ _ _ _ _ _ c.rates.invariant c.draw.ensures.state c.draw.ensures.value c.rate_day-day.ensures c.draw-rate.ensures.state c.draw-rate.ensures.value c.in_ok-push_rate_line.ensures c.in_ok-push_ask_line.ensures

pub returns : goal.returns
returns c = all_rates _ _ _ _ _ (omega arith) c.rates.invariant

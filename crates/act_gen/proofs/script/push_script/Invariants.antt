use Rattle.act_gen.proofs.Loops.{HasRates}
use Rattle.act_gen.proofs.script.push_script.Given as goal

abbrev pub invariant-rates : goal.invariant-rates
invariant-rates l = HasRates l.n l.before l.initial.text.items l.text.items l.draws.state

use Rattle.std.proofs.Common.{rules, ◌≡◌}
use Rattle.act_date.specs.Cycle.{plus_cycles}
use Rattle.act_date.proofs.LaterCycles.{plus_cycles-after}
use Rattle.act_date.proofs.cycle.add_cycles.Goals as goal

pub returns-clause-later : goal.returns-clause-later
returns-clause-later c =
    let value : c.add_cycles.result ≡ plus_cycles c.args.day c.args.cycle c.args.k = unfold plus_cycles in search rules in
    rw value (λ m lt some. plus_cycles-after c.args.day c.args.cycle c.args.k m (search rules) lt some)

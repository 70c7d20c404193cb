use Rattle.std.proofs.Common.{sym, ap, ◌∙◌}
use Rattle.act_sched.specs.Schedule.{if_before}
use Rattle.act_sched.proofs.ByPlace.{date_before_at}
use Rattle.act_sched.proofs.schedule.Schedule.cycle_date_before.Goals as goal

pub returns : goal.returns
returns c =
    let s = c.args.self.now in
    let at = date_before_at c.args.anchor.now c.args.cycle s.end s.rule c.cycle_date.ensures.in_range c.requires c.args.place in
    c.if_before.ensures ∙ ap (if_before s.end) c.cycle_date.ensures.value ∙ sym at

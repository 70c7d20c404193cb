use Rattle.std.proofs.Common.{Some, ap, sym, ◌∙◌}
use Rattle.act_loan.proofs.Plans.{first_given}
use Rattle.act_loan.proofs.planning.with_first_given.Goals as goal

pub returns : goal.returns
returns c =
    ap Some (sym (c.in_ok-with_given.ensures ∙ first_given c.args.status_date c.args.dates.now c.place_after-given.result c.place_after-given.ensures.after c.place_after-given.ensures.within))

use Rattle.std.proofs.Common.{◌≡◌, length, sym, ◌∙◌, arith}
use Rattle.std.proofs.Math.Seq.{drop-length}
use Rattle.act_loan.proofs.Redemptions.{none_left}
use Rattle.act_loan.proofs.annuity.place_after.Goals as goal

pub returns-clause-after : goal.returns-clause-after
returns-clause-after c =
    let all : c.loop-place.place ≡ length c.args.days.now = omega arith in
    drop-length c.args.days.now ∙ sym (none_left c.args.day c.args.days.now) ∙ rw all at c.loop-place.invariant

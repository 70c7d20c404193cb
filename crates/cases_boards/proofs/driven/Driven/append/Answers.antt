use Rattle.std.proofs.Common.{refl}
use Rattle.act_history.specs.declared.mark.Mark.TheVariants as mark
use Rattle.cases_boards.proofs.Driving.{driven-told}
use Rattle.cases_boards.proofs.driven.Driven.append.Goals as goal

pub invariant_of-self : goal.invariant_of-self
invariant_of-self c =
    driven-told c.append.result (mark.Append c.args.caller c.args.entry) c.self.inside.board c.append.new.self _ _ _ _ (λ i. refl) c.append.ensures.appended c.append.ensures.unchanged c.self.invariant

use Rattle.std.proofs.Common.{refl}
use Rattle.act_history.specs.declared.mark.Mark.TheVariants as mark
use Rattle.cases_boards.proofs.Driving.{driven-told}
use Rattle.cases_boards.proofs.driven.Driven.ask.Goals as goal

pub invariant_of-self : goal.invariant_of-self
invariant_of-self c =
    driven-told c.ask.result (mark.Ask c.args.caller c.args.asked) c.self.inside.board c.ask.new.self _ _ _ _ (λ i. refl) c.ask.ensures.asked c.ask.ensures.unchanged c.self.invariant

use Rattle.std.proofs.Common.{◌≡◌, ◌≤◌, ℕ, suc, ◌-◌, refl, sym, ap, ◌∙◌, arith}
use Rattle.act_history.specs.History.{and_then}
use Rattle.act_history.specs.declared.mark.Mark.TheVariants as mark
use Rattle.cases_boards.proofs.Driving.{driven-left, driven-same}
use Rattle.cases_boards.proofs.driven.Driven.leave.Goals as goal

pub invariant_of-self : goal.invariant_of-self
invariant_of-self c =
    let from : 1 ≤ c.args.caller = (c.if-not-is_here.ensures refl).from in
    let number : suc (c.args.caller - 1) ≡ c.args.caller = omega arith in
    driven-same _ _ _ _ _ _ (c.leave.ensures ∙ ap (λ (i : ℕ). and_then c.self.inside.board (mark.Leave i)) (sym number)) (driven-left c.self.inside.board (c.args.caller - 1) _ _ _ _ c.self.invariant)

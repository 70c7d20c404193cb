use Rattle.std.proofs.Common.{◌-◌, List, [], ◌∷◌, ◌++◌, length, refl, sym, ap, subst, ◌∙◌, arith, vec_capacity}
use Rattle.std.proofs.lemmas.List.{length-set}
use Rattle.act_refs.proofs.Turning.{written_back}
use Rattle.act_history.specs.History.{History}
use Rattle.act_keeping.specs.Keeping.{Leaves}
use Rattle.act_history.specs.Legal.{IsLegal}
use Rattle.act_keeping.specs.declared.caller.Caller.{Caller}
use Rattle.act_history.specs.declared.mark.Mark.{Mark}
use Rattle.act_history.specs.declared.mark.Mark.TheVariants as mark
use Rattle.act_keeping.proofs.Boards.{board-left}
use Rattle.act_keeping.proofs.LatestRuns.{latest-quiet}
use Rattle.act_keeping.proofs.Readiness.{ready-quiet}
use Rattle.act_board.proofs.board.Board.leave.Goals as goal

pub overflow_sub-self : goal.overflow_sub-self
overflow_sub-self c =
    let b = c.self.inside in
    let legal = subst (λ (h : History). IsLegal h (mark.Leave c.args.caller)) (sym c.self.view_is) (c.requires.present, c.requires.done) in
    let leaves = subst (λ (xs : List Caller). Leaves xs (c.args.caller - 1) c.set_left.new.callers) c.deref_mut.ensures.value c.set_left.ensures in
    (board-left _ _ c.self.invariant.0 c.args.caller (b.marks.items ++ mark.Leave c.args.caller ∷ []) (vec_capacity b.marks) c.set_left.new.callers legal refl (omega arith) leaves).0

pub put_mark-requires : goal.put_mark-requires
put_mark-requires c =
    let b = c.self.inside in
    let legal = subst (λ (h : History). IsLegal h (mark.Leave c.args.caller)) (sym c.self.view_is) (c.requires.present, c.requires.done) in
    let leaves = subst (λ (xs : List Caller). Leaves xs (c.args.caller - 1) c.set_left.new.callers) c.deref_mut.ensures.value c.set_left.ensures in
    let owes = (board-left _ _ c.self.invariant.0 c.args.caller (b.marks.items ++ mark.Leave c.args.caller ∷ []) (vec_capacity b.marks) c.set_left.new.callers legal refl (omega arith) leaves).0 in
    record { room = omega (arith, owes, c.self.invariant.0.room) }

pub invariant_of-self : goal.invariant_of-self
invariant_of-self c =
    let b = c.self.inside in
    let legal = subst (λ (h : History). IsLegal h (mark.Leave c.args.caller)) (sym c.self.view_is) (c.requires.present, c.requires.done) in
    let leaves = subst (λ (xs : List Caller). Leaves xs (c.args.caller - 1) c.set_left.new.callers) c.deref_mut.ensures.value c.set_left.ensures in
    let marked = c.put_mark.ensures.added ∙ ap (λ (m : Mark). b.marks.items ++ m ∷ []) c.leave.ensures in (
      rw (written_back b.callers.len c.set_left.new.callers b.callers.items (ap length leaves.is ∙ length-set b.callers.items (c.args.caller - 1) leaves.after) (sym c.deref_mut.ensures.len ∙ ap length c.deref_mut.ensures.value))
          (board-left _ _ c.self.invariant.0 c.args.caller c.put_mark.new.marks.items (vec_capacity c.put_mark.new.marks) c.set_left.new.callers legal marked c.put_mark.ensures.kept leaves).1,
      latest-quiet _ _ c.self.invariant.1 (mark.Leave c.args.caller) c.put_mark.new.marks.items marked (λ d. refl) refl,
      ready-quiet _ _ _ _ _ _ c.self.invariant.2 (mark.Leave c.args.caller) c.put_mark.new.marks.items marked (λ d w. refl),
    )

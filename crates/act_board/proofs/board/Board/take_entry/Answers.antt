use Rattle.std.proofs.Common.{refl, ◌≡◌, ◌+◌, ◌-◌, ◌≤◌, List, [], ◌∷◌, ◌++◌, length, Some, sym, ap, subst, ◌∙◌, arith, vec_capacity}
use Rattle.std.specs.List.{slice_get}
use Rattle.std.proofs.lemmas.List.{length-set}
use Rattle.act_model.specs.declared.journal.Item.{Item}
use Rattle.act_model.specs.declared.journal.Step.TheVariants as step
use Rattle.act_refs.proofs.Turning.{written_back}
use Rattle.act_history.specs.History.{History}
use Rattle.act_keeping.specs.Keeping.{Spends}
use Rattle.act_history.specs.Legal.{IsLegal}
use Rattle.act_keeping.specs.declared.caller.Caller.{Caller}
use Rattle.act_history.specs.declared.mark.Mark.{Mark}
use Rattle.act_history.specs.declared.mark.Mark.TheVariants as mark
use Rattle.act_keeping.proofs.Boards.{board-appended}
use Rattle.act_keeping.proofs.Quotas.{book-room, some-at, some-left}
use Rattle.act_keeping.proofs.LatestRuns.{latest-appended}
use Rattle.act_keeping.proofs.Readiness.{ready-quiet}
use Rattle.act_board.proofs.board.Board.take_entry.Goals as goal

pub append_entry-requires-clause-room : goal.append_entry-requires-clause-room
append_entry-requires-clause-room c =
    let b = c.self.inside in
    let i = c.args.caller in
    let legal = subst (λ (h : History). IsLegal h (mark.Append i c.args.entry)) (sym c.self.view_is) c.requires.legal in
    let one = some-at b.callers.items (i - 1) (omega (arith, legal.0.from, legal.0.to, c.self.invariant.0.callers.count)) in
    book-room _ _ c.self.invariant.0 i one.0 legal.0.from one.1
    (some-left _ _ c.self.invariant.0 i one.0 legal.0.from one.1 legal.2)

pub spend-requires-clause-some : goal.spend-requires-clause-some
spend-requires-clause-some c = λ one at.
    let b = c.self.inside in
    let i = c.args.caller in
    let legal = subst (λ (h : History). IsLegal h (mark.Append i c.args.entry)) (sym c.self.view_is) c.requires.legal in
    let here : slice_get b.callers.items (i - 1) ≡ Some one = ap (λ (xs : List Caller). slice_get xs (i - 1)) (sym c.deref_mut.ensures.value) ∙ at in
    some-left _ _ c.self.invariant.0 i one legal.0.from here legal.2

pub invariant_of-self-2 : goal.invariant_of-self-2
invariant_of-self-2 c =
    let b = c.self.inside in
    let i = c.args.caller in
    let legal = subst (λ (h : History). IsLegal h (mark.Append i c.args.entry)) (sym c.self.view_is) c.requires.legal in
    let spends = subst (λ (xs : List Caller). Spends xs (i - 1) c.spend.new.callers) c.deref_mut.ensures.value c.spend.ensures in
    let marked = c.put_entry.ensures.mark ∙ ap (λ (ms : List Mark). ms ++ mark.Append i c.args.entry ∷ []) c.make_room_for_step.ensures.marks in
    let stepped = c.put_entry.ensures.item ∙ ap (λ (xs : List Item). xs ++ record { caller = i; step = step.Append c.args.entry } ∷ []) c.make_room_for_step.ensures.items in
    let room : length b.marks.items + (b.owing + 1) ≤ vec_capacity c.put_entry.new.marks = omega (arith, c.in_ok-make_room_for_step.ensures.room, ap length c.make_room_for_step.ensures.marks, c.put_entry.ensures.kept) in (
      rw (written_back b.callers.len c.spend.new.callers b.callers.items (ap length spends.is ∙ length-set b.callers.items (i - 1) spends.after) (sym c.deref_mut.ensures.len ∙ ap length c.deref_mut.ensures.value))
          (board-appended _ _ c.self.invariant.0 i c.args.entry c.put_entry.new.marks.items (vec_capacity c.put_entry.new.marks) c.put_entry.new.items.items c.append_entry.new.book c.spend.new.callers
          legal marked room stepped c.in_ok-version.ensures.added spends
          (λ one at. some-left _ _ c.self.invariant.0 i one legal.0.from at legal.2)),
      latest-appended _ _ c.self.invariant.1 (mark.Append i c.args.entry) c.put_entry.new.marks.items marked (λ d. refl) (record { caller = i; step = step.Append c.args.entry }) c.args.entry refl refl,
      ready-quiet _ _ _ _ _ _ c.self.invariant.2 (mark.Append i c.args.entry) c.put_entry.new.marks.items marked (λ d w. refl),
    )

pub returns-clause-version : goal.returns-clause-version
returns-clause-version c = c.in_ok-version.ensures.version ∙ ap length (invariant_of-self-2 c).0.entries

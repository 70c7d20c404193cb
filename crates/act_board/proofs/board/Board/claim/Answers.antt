use Rattle.std.proofs.Common.{◌≡◌, ◌<◌, ℕ, false, length, Some, refl, sym, ap, subst, ◌∙◌, arith}
use Rattle.std.specs.Arc.{arc_value}
use Rattle.std.specs.List.{list_all, slice_get}
use Rattle.std.proofs.lemmas.Option.{slice_get_read}
use Rattle.act_portfolio.specs.Reading.{Accepted}
use Rattle.act_board.specs.Calls.{IsOf}
use Rattle.act_history.specs.History.{History, and_then, is_given_up}
use Rattle.act_keeping.specs.Latest.{cut_for, kept_for}
use Rattle.act_history.specs.Legal.{HasEnded, IsLegal, IsNext, NoneIsClaimable}
use Rattle.act_keeping.specs.Work as evaluation
use Rattle.act_keeping.specs.declared.caller.Caller.{Caller}
use Rattle.act_history.specs.declared.mark.Mark.TheVariants as mark
use Rattle.act_keeping.proofs.Claimed.{has-ended, not-ended}
use Rattle.act_keeping.proofs.Readiness.{next-told, none-told, place-told}
use Rattle.act_keeping.proofs.Told.{told-anyway}
use Rattle.act_board.proofs.board.Board.claim.Goals as goal

pub index-pair-requires : goal.index-pair-requires
index-pair-requires c =
    let b = c.self.inside in
    let raw : History = record { portfolio = arc_value b.portfolio; quotas = b.quotas.items; marks = b.marks.items } in
    let within : c.in-Some.place.now < length b.pairs.items = place-told raw _ c.self.invariant.0 b.ready.lacking.items b.ready.places.items _ b.parents.items c.self.invariant.2 c.deref-3.result.now c.in-Some.place.now c.deref-3.ensures.value c.in-Some.ensures.value in
    omega (arith, within, b.pairs.ok.0)

pub bounds-order-pair : goal.bounds-order-pair
bounds-order-pair c =
    let b = c.self.inside in
    let raw : History = record { portfolio = arc_value b.portfolio; quotas = b.quotas.items; marks = b.marks.items } in
    let within : c.in-Some.place.now < length b.pairs.items = place-told raw _ c.self.invariant.0 b.ready.lacking.items b.ready.places.items _ b.parents.items c.self.invariant.2 c.deref-3.result.now c.in-Some.place.now c.deref-3.ensures.value c.in-Some.ensures.value in
    let at : slice_get b.pairs.items c.in-Some.place.now ≡ Some c.index-pair.result.now = slice_get_read b.pairs.items _ c.in-Some.place.now c.index-pair.result.now refl within c.index-pair.ensures in
    let rank = (c.self.invariant.0.pairs.each c.index-pair.result.now (c.in-Some.place.now, at)).rank in
    omega (arith, rank, ap length c.order.ensures.order, ap (λ (p : Accepted). length p.order) c.deref-in-Some.ensures)

pub hand_out-requires-clause-next : goal.hand_out-requires-clause-next
hand_out-requires-clause-next c =
    let b = c.self.inside in
    let raw : History = record { portfolio = arc_value b.portfolio; quotas = b.quotas.items; marks = b.marks.items } in
    let within : c.in-Some.place.now < length b.pairs.items = place-told raw _ c.self.invariant.0 b.ready.lacking.items b.ready.places.items _ b.parents.items c.self.invariant.2 c.deref-3.result.now c.in-Some.place.now c.deref-3.ensures.value c.in-Some.ensures.value in
    let at : slice_get b.pairs.items c.in-Some.place.now ≡ Some c.index-pair.result.now = slice_get_read b.pairs.items _ c.in-Some.place.now c.index-pair.result.now refl within c.index-pair.ensures in
    next-told raw _ c.self.invariant.0 b.ready.lacking.items b.ready.places.items _ b.parents.items c.self.invariant.2 c.deref-3.result.now c.order.result.now c.in-Some.place.now c.index-pair.result.now c.deref-3.ensures.value c.in-Some.ensures.value at (c.order.ensures.order ∙ ap (λ (p : Accepted). p.order) c.deref-in-Some.ensures) c.if-self.false

pub returns-in_ok-task-in-Some-clause-claimed : goal.returns-in_ok-task-in-Some-clause-claimed
returns-in_ok-task-in-Some-clause-claimed c =
    let b = c.self.inside in
    let raw : History = record { portfolio = arc_value b.portfolio; quotas = b.quotas.items; marks = b.marks.items } in
    let within : c.in-Some.place.now < length b.pairs.items = place-told raw _ c.self.invariant.0 b.ready.lacking.items b.ready.places.items _ b.parents.items c.self.invariant.2 c.deref-3.result.now c.in-Some.place.now c.deref-3.ensures.value c.in-Some.ensures.value in
    let at : slice_get b.pairs.items c.in-Some.place.now ≡ Some c.index-pair.result.now = slice_get_read b.pairs.items _ c.in-Some.place.now c.index-pair.result.now refl within c.index-pair.ensures in
    let is = next-told raw _ c.self.invariant.0 b.ready.lacking.items b.ready.places.items _ b.parents.items c.self.invariant.2 c.deref-3.result.now c.order.result.now c.in-Some.place.now c.index-pair.result.now c.deref-3.ensures.value c.in-Some.ensures.value at (c.order.ensures.order ∙ ap (λ (p : Accepted). p.order) c.deref-in-Some.ensures) c.if-self.false in
    let task = c.in_ok-task-in-Some.task in
    let told = c.in_ok-task-in-Some.ensures in
    let next = subst (λ (v : ℕ). IsNext raw task.contract v) (sym told.version) (subst (λ (d : ℕ). IsNext raw d c.index-pair.result.now.version) (sym told.contract) is) in
    let claimed = told.claimed ∙ (ap (λ (d : ℕ). and_then raw (mark.Claim d c.index-pair.result.now.version)) (sym told.contract) ∙ ap (λ (v : ℕ). and_then raw (mark.Claim task.contract v)) (sym told.version)) in
    let kept = told.kept ∙ (ap (λ (d : ℕ). kept_for raw d c.index-pair.result.now.version) (sym told.contract) ∙ ap (λ (v : ℕ). kept_for raw task.contract v) (sym told.version)) in
    let cut = told.cut ∙ (ap (λ (d : ℕ). cut_for raw d c.index-pair.result.now.version) (sym told.contract) ∙ ap (λ (v : ℕ). cut_for raw task.contract v) (sym told.version)) in
    subst (λ (h : History). (is_given_up h ≡ false) × IsOf h task × IsNext h task.contract (evaluation.version task) × (c.hand_out.new.self ≡ and_then h (mark.Claim task.contract (evaluation.version task)))
    × (task.kept ≡ kept_for h task.contract (evaluation.version task)) × (task.cut ≡ cut_for h task.contract (evaluation.version task))) c.self.view_is
    (sym c.self.invariant.0.given_up ∙ c.if-self.false, told.work, next, claimed, kept, cut)

pub returns-in-None-clause-claimed : goal.returns-in-None-clause-claimed
returns-in-None-clause-claimed c =
    let b = c.self.inside in
    let raw : History = record { portfolio = arc_value b.portfolio; quotas = b.quotas.items; marks = b.marks.items } in
    let left = sym (ap (list_all (λ (caller : Caller). caller.left)) c.deref.ensures.value) ∙ (sym c.all_left-left.ensures ∙ c.if-left.true) in
    subst (λ (h : History). (is_given_up h ≡ false) × HasEnded h × (raw ≡ h)) c.self.view_is
    (sym c.self.invariant.0.given_up ∙ c.if-self.false, has-ended raw _ c.self.invariant.0 left c.if-self.false, refl)

pub returns-in-None-2-clause-claimed : goal.returns-in-None-2-clause-claimed
returns-in-None-2-clause-claimed c =
    let b = c.self.inside in
    let raw : History = record { portfolio = arc_value b.portfolio; quotas = b.quotas.items; marks = b.marks.items } in
    let none = none-told raw _ c.self.invariant.0 b.ready.lacking.items b.ready.places.items _ b.parents.items c.self.invariant.2 c.deref-3.result.now c.deref-3.ensures.value c.in-None.ensures.value in
    let left = sym (ap (list_all (λ (caller : Caller). caller.left)) c.deref.ensures.value) ∙ (sym c.all_left-left.ensures ∙ c.if-left.false) in
    subst (λ (h : History). (is_given_up h ≡ false) × NoneIsClaimable h × (¬ (HasEnded h)) × (raw ≡ h)) c.self.view_is (
      sym c.self.invariant.0.given_up ∙ c.if-self.false,
      none,
      not-ended raw _ c.self.invariant.0 left,
      refl,
    )

pub returns-in_err-task-in-Some-clause-memory : goal.returns-in_err-task-in-Some-clause-memory
returns-in_err-task-in-Some-clause-memory c =
    let b = c.self.inside in
    let raw : History = record { portfolio = arc_value b.portfolio; quotas = b.quotas.items; marks = b.marks.items } in
    let within : c.in-Some.place.now < length b.pairs.items = place-told raw _ c.self.invariant.0 b.ready.lacking.items b.ready.places.items _ b.parents.items c.self.invariant.2 c.deref-3.result.now c.in-Some.place.now c.deref-3.ensures.value c.in-Some.ensures.value in
    let at : slice_get b.pairs.items c.in-Some.place.now ≡ Some c.index-pair.result.now = slice_get_read b.pairs.items _ c.in-Some.place.now c.index-pair.result.now refl within c.index-pair.ensures in
    let is = next-told raw _ c.self.invariant.0 b.ready.lacking.items b.ready.places.items _ b.parents.items c.self.invariant.2 c.deref-3.result.now c.order.result.now c.in-Some.place.now c.index-pair.result.now c.deref-3.ensures.value c.in-Some.ensures.value at (c.order.ensures.order ∙ ap (λ (p : Accepted). p.order) c.deref-in-Some.ensures) c.if-self.false in
    told-anyway c.from_residual.result _ (subst (λ (h : History). (d : ℕ) × (v : ℕ) × IsLegal h (mark.Claim d v)) c.self.view_is (_, _, (sym c.self.invariant.0.given_up ∙ c.if-self.false, is)))

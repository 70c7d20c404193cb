use Rattle.std.proofs.Common.{◌≡◌, ◌-◌, ◌≤◌, false, length, refl, sym, subst, ◌∙◌, arith}
use Rattle.std.proofs.lemmas.Option.{slice_get_read}
use Rattle.act_history.specs.History.{History, is_given_up}
use Rattle.act_history.specs.Legal.{HasQuota}
use Rattle.act_keeping.proofs.Quotas.{quota-left, quota-spent}
use Rattle.act_board.proofs.board.Board.append.Goals as goal

pub returns-then-index-eq0-clause-spent : goal.returns-then-index-eq0-clause-spent
returns-then-index-eq0-clause-spent c =
    let b = c.self.inside in
    let i = c.args.caller in
    let to = subst (λ (h : History). i ≤ length h.quotas) (sym c.self.view_is) c.requires.present.to in
    let at = slice_get_read b.callers.items _ (i - 1) c.index.result.now refl (omega (arith, c.requires.present.from, to, c.self.invariant.0.callers.count)) c.index.ensures in
    let spent = quota-spent _ _ c.self.invariant.0 i c.index.result.now c.requires.present.from at c.if-index-eq0.true in
    (λ is. (subst (λ (h : History). is_given_up h ≡ false) c.self.view_is (sym c.self.invariant.0.given_up ∙ c.if-self.false), subst (λ (h : History). ¬ (HasQuota h i)) c.self.view_is spent), λ both. refl)

pub take_entry-requires-clause-legal : goal.take_entry-requires-clause-legal
take_entry-requires-clause-legal c =
    let b = c.self.inside in
    let i = c.args.caller in
    let to = subst (λ (h : History). i ≤ length h.quotas) (sym c.self.view_is) c.requires.present.to in
    let at = slice_get_read b.callers.items _ (i - 1) c.index.result.now refl (omega (arith, c.requires.present.from, to, c.self.invariant.0.callers.count)) c.index.ensures in
    let left = quota-left _ _ c.self.invariant.0 i c.index.result.now c.requires.present.from at (omega (arith, c.if-index-eq0.false)) in
    (c.requires.present, subst (λ (h : History). is_given_up h ≡ false) c.self.view_is (sym c.self.invariant.0.given_up ∙ c.if-self.false), subst (λ (h : History). HasQuota h i) c.self.view_is left)

pub returns-in-Ok-clause-spent : goal.returns-in-Ok-clause-spent
returns-in-Ok-clause-spent c =
    let b = c.self.inside in
    let i = c.args.caller in
    let to = subst (λ (h : History). i ≤ length h.quotas) (sym c.self.view_is) c.requires.present.to in
    let at = slice_get_read b.callers.items _ (i - 1) c.index.result.now refl (omega (arith, c.requires.present.from, to, c.self.invariant.0.callers.count)) c.index.ensures in
    let left = quota-left _ _ c.self.invariant.0 i c.index.result.now c.requires.present.from at (omega (arith, c.if-index-eq0.false)) in
    (λ is. absurd (cc), λ both. absurd (both.1 (subst (λ (h : History). HasQuota h i) c.self.view_is left)))

pub returns-in-Err-clause-spent : goal.returns-in-Err-clause-spent
returns-in-Err-clause-spent c =
    let b = c.self.inside in
    let i = c.args.caller in
    let to = subst (λ (h : History). i ≤ length h.quotas) (sym c.self.view_is) c.requires.present.to in
    let at = slice_get_read b.callers.items _ (i - 1) c.index.result.now refl (omega (arith, c.requires.present.from, to, c.self.invariant.0.callers.count)) c.index.ensures in
    let left = quota-left _ _ c.self.invariant.0 i c.index.result.now c.requires.present.from at (omega (arith, c.if-index-eq0.false)) in
    (λ is. absurd (cc), λ both. absurd (both.1 (subst (λ (h : History). HasQuota h i) c.self.view_is left)))

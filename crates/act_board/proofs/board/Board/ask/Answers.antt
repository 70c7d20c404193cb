use Rattle.std.proofs.Common.{◌≡◌, ◌-◌, ◌≤◌, false, length, inl, inr, refl, sym, ap, subst, ◌∙◌, arith}
use Rattle.std.proofs.lemmas.Option.{slice_get_read}
use Rattle.act_history.specs.History.{History, asks_by, is_given_up, open_asks}
use Rattle.act_history.specs.Legal.{IsFull, IsLegal}
use Rattle.act_history.specs.declared.mark.Mark.TheVariants as mark
use Rattle.act_keeping.proofs.Quotas.{few-asked, few-open}
use Rattle.act_board.proofs.board.Board.ask.Goals as goal
use Rattle.act_board.proofs.board.Board.ask.Goals.{then-len-ge-MOST_OPEN-via-then-len-ge-MOST_OPEN, then-len-ge-MOST_OPEN-via-else-len-ge-MOST_OPEN+then-asking-ge-MOST_ASKS}

pub returns-then-len-ge-MOST_OPEN-clause-full : goal.returns-then-len-ge-MOST_OPEN-clause-full
returns-then-len-ge-MOST_OPEN-clause-full c =
    let b = c.self.inside in
    let i = c.args.caller in
    let one = c.index-asking.result.now in
    let to = subst (λ (h : History). i ≤ length h.quotas) (sym c.self.view_is) c.requires.present.to in
    let at = slice_get_read b.callers.items _ (i - 1) one refl (omega (arith, c.requires.present.from, to, c.self.invariant.0.callers.count)) c.index-asking.ensures in
    let opened = ap (λ (h : History). length (open_asks h i)) (sym c.self.view_is) ∙ few-open _ _ c.self.invariant.0 i one c.requires.present.from at in
    let asked = ap (λ (h : History). length (asks_by h i)) (sym c.self.view_is) ∙ few-asked _ _ c.self.invariant.0 i one c.requires.present.from at in
    let going = subst (λ (h : History). is_given_up h ≡ false) c.self.view_is (sym c.self.invariant.0.given_up ∙ c.if-self.false) in
    let full : IsFull c.args.self.now i = elim c.then-len-ge-MOST_OPEN.branch [
      | then-len-ge-MOST_OPEN-via-then-len-ge-MOST_OPEN w ↦ inl (omega (arith, w.if-len-ge-MOST_OPEN.true, c.len.ensures, one.open_asks.ok.0, opened))
      | then-len-ge-MOST_OPEN-via-else-len-ge-MOST_OPEN+then-asking-ge-MOST_ASKS w ↦ inr (omega (arith, w.if-asking-ge-MOST_ASKS.true, asked))
    ] in
    (λ is. (going, full), λ both. refl)

pub take_ask-requires-clause-legal : goal.take_ask-requires-clause-legal
take_ask-requires-clause-legal c =
    let b = c.self.inside in
    let i = c.args.caller in
    let one = c.index-asking.result.now in
    let to = subst (λ (h : History). i ≤ length h.quotas) (sym c.self.view_is) c.requires.present.to in
    let at = slice_get_read b.callers.items _ (i - 1) one refl (omega (arith, c.requires.present.from, to, c.self.invariant.0.callers.count)) c.index-asking.ensures in
    let opened = ap (λ (h : History). length (open_asks h i)) (sym c.self.view_is) ∙ few-open _ _ c.self.invariant.0 i one c.requires.present.from at in
    let asked = ap (λ (h : History). length (asks_by h i)) (sym c.self.view_is) ∙ few-asked _ _ c.self.invariant.0 i one c.requires.present.from at in
    let going = subst (λ (h : History). is_given_up h ≡ false) c.self.view_is (sym c.self.invariant.0.given_up ∙ c.if-self.false) in
    subst (λ (h : History). IsLegal h (mark.Ask i c.args.asked)) (sym c.drop_runs.ensures)
    (c.requires.present, going, omega (arith, c.if-len-ge-MOST_OPEN.false, c.len.ensures, one.open_asks.ok.0, opened), omega (arith, c.if-asking-ge-MOST_ASKS.false, asked))

pub returns-in-Ok-clause-full : goal.returns-in-Ok-clause-full
returns-in-Ok-clause-full c =
    let b = c.self.inside in
    let i = c.args.caller in
    let one = c.index-asking.result.now in
    let to = subst (λ (h : History). i ≤ length h.quotas) (sym c.self.view_is) c.requires.present.to in
    let at = slice_get_read b.callers.items _ (i - 1) one refl (omega (arith, c.requires.present.from, to, c.self.invariant.0.callers.count)) c.index-asking.ensures in
    let opened = ap (λ (h : History). length (open_asks h i)) (sym c.self.view_is) ∙ few-open _ _ c.self.invariant.0 i one c.requires.present.from at in
    let asked = ap (λ (h : History). length (asks_by h i)) (sym c.self.view_is) ∙ few-asked _ _ c.self.invariant.0 i one c.requires.present.from at in (
      λ is. absurd (cc),
      λ both. elim both.1 [
        | inl many ↦ absurd (omega (arith, many, c.if-len-ge-MOST_OPEN.false, c.len.ensures, one.open_asks.ok.0, opened))
        | inr many ↦ absurd (omega (arith, many, c.if-asking-ge-MOST_ASKS.false, asked))
      ],
    )

pub returns-in-Err-clause-full : goal.returns-in-Err-clause-full
returns-in-Err-clause-full c =
    let b = c.self.inside in
    let i = c.args.caller in
    let one = c.index-asking.result.now in
    let to = subst (λ (h : History). i ≤ length h.quotas) (sym c.self.view_is) c.requires.present.to in
    let at = slice_get_read b.callers.items _ (i - 1) one refl (omega (arith, c.requires.present.from, to, c.self.invariant.0.callers.count)) c.index-asking.ensures in
    let opened = ap (λ (h : History). length (open_asks h i)) (sym c.self.view_is) ∙ few-open _ _ c.self.invariant.0 i one c.requires.present.from at in
    let asked = ap (λ (h : History). length (asks_by h i)) (sym c.self.view_is) ∙ few-asked _ _ c.self.invariant.0 i one c.requires.present.from at in (
      λ is. absurd (cc),
      λ both. elim both.1 [
        | inl many ↦ absurd (omega (arith, many, c.if-len-ge-MOST_OPEN.false, c.len.ensures, one.open_asks.ok.0, opened))
        | inr many ↦ absurd (omega (arith, many, c.if-asking-ge-MOST_ASKS.false, asked))
      ],
    )

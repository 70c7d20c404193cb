use Rattle.std.proofs.Common.{◌≡◌, ◌≤◌, ◌-◌, length, Some, refl, sym, ap, subst, ◌∙◌, arith}
use Rattle.std.specs.List.{slice_get}
use Rattle.std.proofs.lemmas.Option.{slice_get_read}
use Rattle.act_history.specs.History.{History, open_asks}
use Rattle.act_keeping.proofs.Quotas.{few-open, open-within}
use Rattle.act_board.proofs.board.Board.open_asks.Goals as goal

at : (c : goal.After-len) → slice_get c.self.inside.callers.items (c.args.caller - 1) ≡ Some c.index.result.now
at c =
    let to : c.args.caller ≤ length c.self.inside.quotas.items = subst (λ (h : History). c.args.caller ≤ length h.quotas) (sym c.self.view_is) c.requires.to in
    slice_get_read c.self.inside.callers.items _ (c.args.caller - 1) c.index.result.now refl (omega (arith, c.requires.from, to, c.self.invariant.0.callers.count)) c.index.ensures

pub overflow_cast-result : goal.overflow_cast-result
overflow_cast-result c =
    omega (arith, c.len.ensures, c.index.result.now.open_asks.ok.0, open-within _ _ c.self.invariant.0 c.args.caller c.index.result.now c.requires.from (at c))

pub returns : goal.returns
returns c =
    c.len.ensures
    ∙ (c.index.result.now.open_asks.ok.0
    ∙ (sym (few-open _ _ c.self.invariant.0 c.args.caller c.index.result.now c.requires.from (at c))
    ∙ ap (λ (h : History). length (open_asks h c.args.caller)) c.self.view_is))

use Rattle.std.proofs.Common.{ℕ, List, length, sym, ap, subst, ◌∙◌}
use Rattle.act_refs.proofs.Turning.{written_back}
use Rattle.act_keeping.specs.Dropping.{Drops}
use Rattle.act_keeping.specs.declared.caller.Caller.{Caller}
use Rattle.act_keeping.specs.declared.pair.Pair.{Pair}
use Rattle.act_keeping.proofs.Dropped.{board-dropped}
use Rattle.act_keeping.proofs.Readiness.{ready-dropped}
use Rattle.act_board.proofs.board.Board.drop_runs.Goals as goal

pub invariant_of-self : goal.invariant_of-self
invariant_of-self c =
    let b = c.self.inside in
    let new = c.drop_runs-self-inside.new.pairs in
    let drops = subst (λ (v : ℕ). Drops b.pairs.items b.callers.items v new) c.len-version.ensures.length
    (subst (λ (xs : List Caller). Drops b.pairs.items xs c.len-version.result new) c.deref.ensures.value
    (subst (λ (xs : List Pair). Drops xs c.deref.result.now c.len-version.result new) c.deref_mut.ensures.value c.drop_runs-self-inside.ensures.dropped)) in (
      rw (written_back b.pairs.len new b.pairs.items drops.count (sym c.deref_mut.ensures.len ∙ ap length c.deref_mut.ensures.value))
          (board-dropped _ _ c.self.invariant.0 new drops),
      c.self.invariant.1,
      rw (written_back b.pairs.len new b.pairs.items drops.count (sym c.deref_mut.ensures.len ∙ ap length c.deref_mut.ensures.value))
          (ready-dropped _ b.pairs.items b.ready.lacking.items b.ready.places.items _ b.parents.items c.self.invariant.2 b.callers.items (length b.book) new drops),
    )

use Rattle.std.proofs.Common.{◌≡◌, Option, None, refl, length, sym, ap, subst, ◌∙◌, arith}
use Rattle.std.specs.Arc.{arc_value}
use Rattle.std.specs.declared.alloc.Global.{Global}
use Rattle.std.specs.declared.sync.Arc.{Arc}
use Rattle.act_model.specs.Run.{Stream}
use Rattle.act_profile.specs.Kept.{KeptRows, kept_of}
use Rattle.act_run.specs.Resuming.{kept_by}
use Rattle.act_keeping.specs.Latest.{kept_under}
use Rattle.act_keeping.specs.Tasks.{MayGoOn}
use Rattle.act_keeping.specs.Work.{Work, outcome}
use Rattle.act_board.proofs.Worked.{goes-from, kept-within, whole-run}
use Rattle.act_board.proofs.work.Task.fresh.Goals as goal

pub overflow_sub-result : goal.overflow_sub-result
overflow_sub-result c =
    let inside = c.self.inside in
    let run = outcome c.args.self.now in
    let goes = goes-from run inside.cached.run inside.cached.cut c.in-Some.kept c.in-Some.is (subst (λ (s : Stream). MayGoOn s inside.cached.run inside.cached.cut) (ap outcome c.self.view_is) c.self.invariant.kept) in
    let counted = c.kept_rows.ensures.rows ∙ ap (λ (s : Stream). length (kept_of s inside.cached.cut).rows) c.deref-else-is_kept_whole.ensures in
    let rows = c.count.ensures ∙ (ap (λ (s : Stream). length s.rows) c.run.view_is ∙ ap (λ (s : Stream). length s.rows) c.requires.run) in
    omega (arith, counted, ap (λ (k : KeptRows). length k.rows) goes.same, kept-within run inside.cached.cut, rows)

pub returns-then-is_kept_whole : goal.returns-then-is_kept_whole
returns-then-is_kept_whole c =
    let cached = c.self.inside.cached in
    let run = outcome c.args.self.now in
    let goes = goes-from run cached.run cached.cut c.in-Some.kept c.in-Some.is (subst (λ (s : Stream). MayGoOn s cached.run cached.cut) (ap outcome c.self.view_is) c.self.invariant.kept) in
    let whole = subst (λ (s : Stream). kept_of s cached.cut ≡ kept_by s None) c.deref.ensures (c.if-is_kept_whole.ensures.whole refl) in
    let rows =
    sym (ap (λ (w : Work). length w.kept.rows) c.self.view_is)
    ∙ (ap (λ (r : Option (Arc Stream Global)). length (kept_under r cached.cut).rows) c.in-Some.is
    ∙ (ap (λ (k : KeptRows). length k.rows) whole ∙ ap (λ (s : Stream). length s.rows) (whole-run run (arc_value c.in-Some.kept) cached.cut goes whole))) in
    omega (arith, rows, ap (λ (s : Stream). length s.rows) c.requires.run)

pub returns-else-is_kept_whole : goal.returns-else-is_kept_whole
returns-else-is_kept_whole c =
    let inside = c.self.inside in
    let run = outcome c.args.self.now in
    let goes = goes-from run inside.cached.run inside.cached.cut c.in-Some.kept c.in-Some.is (subst (λ (s : Stream). MayGoOn s inside.cached.run inside.cached.cut) (ap outcome c.self.view_is) c.self.invariant.kept) in
    let counted = c.kept_rows.ensures.rows ∙ ap (λ (s : Stream). length (kept_of s inside.cached.cut).rows) c.deref-else-is_kept_whole.ensures in
    let own = ap (λ (r : Option (Arc Stream Global)). length (kept_under r inside.cached.cut).rows) (sym c.in-Some.is) ∙ ap (λ (w : Work). length w.kept.rows) c.self.view_is in
    let rows = c.count.ensures ∙ ap (λ (s : Stream). length s.rows) c.run.view_is in
    omega (arith, counted, own, ap (λ (k : KeptRows). length k.rows) goes.same, kept-within run inside.cached.cut, rows, ap (λ (s : Stream). length s.rows) c.requires.run)

pub returns-in-None : goal.returns-in-None
returns-in-None c =
    let inside = c.self.inside in
    let own = ap (λ (r : Option (Arc Stream Global)). length (kept_under r inside.cached.cut).rows) (sym c.in-None.is) ∙ ap (λ (w : Work). length w.kept.rows) c.self.view_is in
    let rows = c.count-in-None.ensures ∙ ap (λ (s : Stream). length s.rows) c.run.view_is in
    omega (arith, own, rows)

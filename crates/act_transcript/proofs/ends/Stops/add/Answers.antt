use Rattle.std.proofs.Common.{ℕ, List, refl, ap, ◌≡◌, ◌∙◌}
use Rattle.std.specs.Prelude.{Bool, ◌&&◌}
use Rattle.std.specs.declared.alloc.Global.{Global}
use Rattle.std.specs.declared.sync.Arc.{Arc}
use Rattle.act_engine.proofs.Lists.{drop-next, drop-past}
use Rattle.act_model.specs.Run.{Stream}
use Rattle.act_transcript.specs.Ends.{all_end, are_none, ends_well, is_end}
use Rattle.act_transcript.specs.Text.{shared_runs}
use Rattle.act_transcript.proofs.Adding.{and-done, and-next}
use Rattle.act_transcript.proofs.ends.Stops.add.Goals as goal

-- the blocks of runs that are shared
abbrev all-end : List (ℕ × Arc Stream Global) → Bool
all-end runs = all_end (shared_runs runs)

pub loop-run-init : goal.loop-run-init
loop-run-init c = refl

pub loop-run-preserved : goal.loop-run-preserved
loop-run-preserved c =
    let here = drop-next c.deref-run-items.result.now c.loop-run.run-index c.run-item.result c.loop-run-test.true c.run-item.is in
    let close = ap (λ (run : Stream). is_end run.close) (c.behind-run.view_is ∙ c.deref.ensures) in
    and-next _ _ _ _ _ _ c.loop-run.invariant (ap all-end here) (c.add_block.ensures ∙ ap (λ (b : Bool). are_none c.loop-run.self && b) close)

pub returns : goal.returns
returns c =
    let all : all-end c.deref-run-items.result.now ≡ ends_well c.args.answer.now = ap all-end c.deref-run-items.ensures.value ∙ ap ends_well c.answer.view_is in
    and-done _ _ _ c.loop-run.invariant (ap all-end (drop-past c.deref-run-items.result.now c.loop-run.run-index c.loop-run-test.false))
    ∙ ap (λ (b : Bool). are_none c.args.self.now && b) all

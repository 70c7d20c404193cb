use Rattle.std.proofs.Common.{ℕ, List, sym, ap, subst, arith}
use Rattle.std.specs.Arc.{arc_value}
use Rattle.std.specs.declared.alloc.Global.{Global}
use Rattle.std.specs.declared.sync.Arc.{Arc}
use Rattle.act_engine.proofs.Lists.{drop-next, drop-past}
use Rattle.act_engine.proofs.Texts.{left-all, left-next, left-none, left-part, writes-part}
use Rattle.act_model.specs.Run.{Stream}
use Rattle.act_print.specs.Printed.{printed_block}
use Rattle.act_print.specs.Text.{block_text}
use Rattle.act_transcript.specs.Beside.{IsBlockOrNone, WereRenewed}
use Rattle.act_transcript.specs.Text.{runs_text, shared_runs}
use Rattle.act_transcript.proofs.RenewedLines.{lines-here, shared-at, shared-named}
use Rattle.act_transcript.proofs.windows.write_window.Goals as goal
use Rattle.act_transcript.proofs.windows.write_window.Goals.{After-deref}

-- the lines of the run at this place
here : (g : _) (c : After-deref g) → WereRenewed c.args.names.now (shared_runs c.args.runs.now) c.loop-place.place c.index-window-place.result
here g c = c.requires.renewed c.loop-place.place c.index-window-place.result (lines-here c.args.window.now c.loop-place.place c.index-window-place.result (omega (arith, c.loop-place-test.true, c.requires.places)) c.index-window-place.is)

pub write_lines-requires-clause-contract : goal.write_lines-requires-clause-contract
write_lines-requires-clause-contract g c = shared-named c.args.names.now c.args.runs.now c.loop-place.place c.index-runs-place.result c.loop-place-test.true c.index-runs-place.is c.requires.named

pub write_lines-requires-clause-named : goal.write_lines-requires-clause-named
write_lines-requires-clause-named g c = (here g (goal.at.write_lines-requires-clause-named g c).After-deref).written

pub write_lines-requires-clause-block : goal.write_lines-requires-clause-block
write_lines-requires-clause-block g c =
    let item = c.index-runs-place.result in
    subst (λ (run : Stream). IsBlockOrNone item.0 run c.index-window-place.result) (sym c.deref.ensures)
    ((here g (goal.at.write_lines-requires-clause-block g c).After-deref).block (item.0, arc_value item.1) (shared-at c.args.runs.now c.loop-place.place item c.loop-place-test.true c.index-runs-place.is))

pub loop-place-init : goal.loop-place-init
loop-place-init g c = left-all _ _

pub loop-place-preserved : goal.loop-place-preserved
loop-place-preserved g c =
    let names = c.args.names.now in
    let item = c.index-runs-place.result in
    let next = drop-next c.args.runs.now c.loop-place.place item c.loop-place-test.true c.index-runs-place.is in
    left-next _ _ (block_text names (printed_block (item.0, arc_value item.1))) _ _ _ _ c.loop-place.invariant (ap (λ (rs : List (ℕ × Arc Stream Global)). runs_text names (shared_runs rs)) next) (rw c.deref.ensures at c.in_ok-write_lines.ensures)

pub returns-in_err-write_lines : goal.returns-in_err-write_lines
returns-in_err-write_lines g c =
    let names = c.args.names.now in
    let item = c.index-runs-place.result in
    let next = drop-next c.args.runs.now c.loop-place.place item c.loop-place-test.true c.index-runs-place.is in
    writes-part c.from_residual.result _ _ _ _ c.from_residual.ensures.1
    (left-part c.in_err-write_lines.field-0.0 _ _ (block_text names (printed_block (item.0, arc_value item.1))) _ _ _ _ c.loop-place.invariant (ap (λ (rs : List (ℕ × Arc Stream Global)). runs_text names (shared_runs rs)) next)
    (rw c.deref.ensures at c.in_err-write_lines.ensures))

pub returns : goal.returns
returns g c = left-none _ _ _ _ c.loop-place.invariant (ap (λ (rs : List (ℕ × Arc Stream Global)). runs_text c.args.names.now (shared_runs rs)) (drop-past c.args.runs.now c.loop-place.place c.loop-place-test.false))

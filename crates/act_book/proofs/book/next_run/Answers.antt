use Rattle.std.proofs.Common.{◌-◌, ◌*◌, ◌≤◌, ◌++◌, length, take, ap, ◌∙◌, arith}
use Rattle.std.specs.Arc.{arc_value}
use Rattle.act_book.specs.Runs.{chunk}
use Rattle.act_book.proofs.RunLists.{chunks_of, run_at, run_before}
use Rattle.act_book.proofs.book.next_run.Goals as goal

pub overflow_sub-front : goal.overflow_sub-front
overflow_sub-front c =
    let within : c.loop-front.front ≤ length c.args.runs.now = let all = c.loop-front.invariant in omega arith in
    let counted = chunks_of c.args.entries.now.items c.args.runs.now c.requires.runs c.loop-front.front c.loop-front-test.true within c.index-runs-front.result c.index-runs-front.is c.entries.result.now (c.entries.ensures ∙ c.deref.ensures) in
    omega arith

pub loop-front-preserved : goal.loop-front-preserved
loop-front-preserved c =
    let entries = c.args.entries.now.items in
    let front = c.loop-front.front in
    let before = c.index-runs-front.result in
    let within : front ≤ length c.args.runs.now = let all = c.loop-front.invariant in omega arith in
    let counted = chunks_of entries c.args.runs.now c.requires.runs front c.loop-front-test.true within before c.index-runs-front.is c.entries.result.now (c.entries.ensures ∙ c.deref.ensures) in
    let at = run_at entries c.args.runs.now c.requires.runs front c.loop-front-test.true within before c.index-runs-front.is in
    let left = front - c.loop-front.chunks in
    record {
      all = let all = c.loop-front.invariant in omega arith;
      some = let all = c.loop-front.invariant in omega arith;
      joined =
          ap (λ run. take (chunk * left) entries ++ run) (c.in_ok-run-2.ensures.ok ∙ c.in_ok-joined.ensures ∙ ap (λ run. run ++ c.deref-in-loop-front-2.result.now) c.deref-in-loop-front.ensures ∙ ap (λ run. arc_value before ++ run) c.deref-in-loop-front-2.ensures)
          ∙ run_before entries left front (arc_value before) (arc_value c.loop-front.run) at (omega arith)
          ∙ c.loop-front.invariant.joined;
    }

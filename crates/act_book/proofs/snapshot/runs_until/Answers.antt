use Rattle.std.proofs.Common.{◌-◌, ◌*◌, ◌/◌, ◌++◌, length, take, reverse, ap, ◌∙◌, arith}
use Rattle.std.specs.Arc.{arc_value}
use Rattle.act_book.specs.Runs.{chunk, entries_of}
use Rattle.act_book.proofs.RunLists.{chunks_of, entries_turned, run_at, run_before}
use Rattle.act_book.proofs.snapshot.runs_until.Goals as goal

pub overflow_sub-front-in-loop-front : goal.overflow_sub-front-in-loop-front
overflow_sub-front-in-loop-front c =
    let counted = chunks_of c.args.entries.now.items c.args.runs.now c.requires.runs c.loop-front.front c.loop-front-test.true c.loop-front.invariant.within c.index-runs-front.result c.index-runs-front.is c.entries.result.now (c.entries.ensures ∙ c.deref.ensures ∙ c.in_ok-run.ensures) in
    omega arith

pub loop-front-smaller : goal.loop-front-smaller
loop-front-smaller c =
    let counted = chunks_of c.args.entries.now.items c.args.runs.now c.requires.runs c.loop-front.front c.loop-front-test.true c.loop-front.invariant.within c.index-runs-front.result c.index-runs-front.is c.entries.result.now (c.entries.ensures ∙ c.deref.ensures ∙ c.in_ok-run.ensures) in
    omega arith

pub loop-front-preserved : goal.loop-front-preserved
loop-front-preserved c =
    let entries = c.args.entries.now.items in
    let front = c.loop-front.front in
    let counted = chunks_of entries c.args.runs.now c.requires.runs front c.loop-front-test.true c.loop-front.invariant.within c.index-runs-front.result c.index-runs-front.is c.entries.result.now (c.entries.ensures ∙ c.deref.ensures ∙ c.in_ok-run.ensures) in
    let at = run_at entries c.args.runs.now c.requires.runs front c.loop-front-test.true c.loop-front.invariant.within c.index-runs-front.result c.index-runs-front.is in
    let left = front - length c.entries.result.now / 256 in
    let more = entries_of (reverse c.loop-front.shared.items) in
    record {
      within = let within = c.loop-front.invariant.within in omega arith;
      joined =
          ap (λ shared. take (chunk * left) entries ++ entries_of (reverse shared)) c.in_ok-push.ensures.items
          ∙ ap (λ all. take (chunk * left) entries ++ all) (entries_turned c.loop-front.shared.items c.in_ok-run.run' ∙ ap (λ run. run ++ more) c.in_ok-run.ensures)
          ∙ run_before entries left front (arc_value c.index-runs-front.result) more at (omega arith)
          ∙ c.loop-front.invariant.joined;
    }

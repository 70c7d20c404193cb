use Rattle.std.proofs.Common.{◌++◌, take, ap, sym, ◌∙◌, arith}
use Rattle.act_book.specs.Runs.{entries_of}
use Rattle.act_book.proofs.RunLists.{entries_front, entries_within}
use Rattle.act_book.proofs.recent.push_within.Goals as goal

pub returns-then-more-most-clause-counted : goal.returns-then-more-most-clause-counted
returns-then-more-most-clause-counted c =
    let counted = c.loop-run.invariant.counted in omega (arith, entries_within c.args.runs.now c.loop-run.run-index)

pub returns-then-more-most-clause-shared : goal.returns-then-more-most-clause-shared
returns-then-more-most-clause-shared c =
    let runs = c.args.runs.now in
    c.loop-run.invariant.shared
    ∙ ap (λ front. entries_of c.args.shared.now.items ++ front) (sym (entries_front runs c.loop-run.run-index) ∙ ap (λ n. take n (entries_of runs)) (sym c.loop-run.invariant.counted))

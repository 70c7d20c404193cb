use Rattle.std.proofs.Common.{subst, sym}
use Rattle.std.proofs.lemmas.List.{take_all}
use Rattle.std.specs.List.{All}
use Rattle.act_model.specs.Chunk.{FitsIn}
use Rattle.act_model.proofs.Slims.{fit_more}
use Rattle.act_model.proofs.shared.Counts.of.Goals as goal

pub loop-slim-preserved : goal.loop-slim-preserved
loop-slim-preserved c =
    let slims = c.args.slims.now in
    let k = c.loop-slim.slim-index in
    let slim = c.slim-item.result in
    let before = c.loop-slim.invariant in
    record {
      fit = fit_more slims k slim c.loop-slim.counts c.with-counts.result c.loop-slim-test.true c.slim-item.is before.fit c.with-counts.ensures.more c.with-counts.ensures.fits;
      least = λ counts all. c.with-counts.ensures.least counts (before.least counts all) (subst (FitsIn counts) (sym c.slim-item.is) (all k slim c.loop-slim-test.true));
    }

pub returns-clause-fit : goal.returns-clause-fit
returns-clause-fit c = subst (All (FitsIn c.loop-slim.counts)) (take_all c.loop-slim.slim-index c.args.slims.now c.loop-slim-test.false) c.loop-slim.invariant.fit

pub returns-clause-least : goal.returns-clause-least
returns-clause-least c = c.loop-slim.invariant.least

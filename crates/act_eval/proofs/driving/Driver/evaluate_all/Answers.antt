use Rattle.std.proofs.Common.{refl, arith, sym, subst, ◌∙◌, Bor}
use Rattle.act_portfolio.specs.Reading.{Accepted}
use Rattle.act_transcript.proofs.KnownLines.{ones-first, ones-then}
use Rattle.act_eval.specs.Driven.{IsQuiet}
use Rattle.act_eval.proofs.Quiet.{fewer-turns, on-first, on-next}
use Rattle.act_eval.proofs.driving.Driver.evaluate_all.Goals as goal

pub loop-more-init : goal.loop-more-init
loop-more-init g c = record {
  on = on-first c.args.self.now.portfolio.now c.args.self.now.board c.args.steps.now c.requires.quiet;
  counted = omega arith;
  portfolio = refl;
  known = c.requires.known;
  same = ones-first c.args.self.now.blocks c.requires.known.written;
  at = refl;
}

pub evaluate_next-requires-clause-quiet : goal.evaluate_next-requires-clause-quiet
evaluate_next-requires-clause-quiet g c = subst (λ (p : Bor Accepted). IsQuiet p.now c.loop-more.self.board) (sym c.loop-more.invariant.portfolio) c.loop-more.invariant.on.quiet

pub loop-more-smaller : goal.loop-more-smaller
loop-more-smaller g c =
    fewer-turns c.args.self.now.portfolio.now c.args.self.now.board c.loop-more.self.board c.evaluate_next.new.self.board c.args.steps.now c.loop-more.steps c.evaluate_next.new.steps c.loop-more.more c.loop-more.invariant.on c.in_ok-more.more c.loop-more-test.true c.in_ok-more.ensures.goes_on

pub loop-more-preserved : goal.loop-more-preserved
loop-more-preserved g c = record {
  on = on-next c.args.self.now.portfolio.now c.args.self.now.board c.loop-more.self.board c.evaluate_next.new.self.board c.args.steps.now c.loop-more.steps c.evaluate_next.new.steps c.loop-more.more c.loop-more.invariant.on c.in_ok-more.more c.in_ok-more.ensures.goes_on;
  counted = omega (arith, c.loop-more.invariant.counted, c.in_ok-more.ensures.counted);
  portfolio = c.in_ok-more.ensures.portfolio ∙ c.loop-more.invariant.portfolio;
  known = c.in_ok-more.ensures.known;
  same = ones-then c.args.self.now.blocks c.loop-more.self.blocks c.evaluate_next.new.self.blocks c.loop-more.invariant.same c.in_ok-more.ensures.same;
  at = c.in_ok-more.ensures.at ∙ c.loop-more.invariant.at;
}

pub returns-clause-none : goal.returns-clause-none
returns-clause-none g c = c.loop-more.invariant.on.none c.loop-more-test.false

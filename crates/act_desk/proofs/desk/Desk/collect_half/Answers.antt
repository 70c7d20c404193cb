use Rattle.std.proofs.Common.{◌∙◌, ap, arith, length, refl}
use Rattle.std.proofs.lemmas.List.{length-append}
use Rattle.act_desk.proofs.Lines.{half-open}
use Rattle.act_desk.proofs.Making.{making-as, making-collect, making-watched}
use Rattle.act_desk.proofs.Way.{making-at, making-present, making-some}
use Rattle.act_desk.proofs.desk.Desk.collect_half.Goals as goal

pub collect_next-requires-clause-at : goal.collect_next-requires-clause-at
collect_next-requires-clause-at g c κs within = making-at (c.loop.invariant.brings c.requires.way.0 c.requires.way.1 c.requires.way.2 c.requires.way.4 c.requires.way.5) c.requires.way.3

pub collect_next-requires-clause-present : goal.collect_next-requires-clause-present
collect_next-requires-clause-present g c κs within = making-present (c.loop.invariant.brings c.requires.way.0 c.requires.way.1 c.requires.way.2 c.requires.way.4 c.requires.way.5)

pub collect_next-requires-clause-open : goal.collect_next-requires-clause-open
collect_next-requires-clause-open g c κs within =
    let half = half-open c.requires.way.4 c.requires.way.5 c.requires.open in
    let count = c.loop.invariant.count in
    making-some (c.loop.invariant.brings c.requires.way.0 c.requires.way.1 c.requires.way.2 c.requires.way.4 c.requires.way.5) c.requires.way.4 refl (omega (arith, half, count, c.loop-test.true))

pub returns-in_err-collect_next : goal.returns-in_err-collect_next
returns-in_err-collect_next g c first lines done may had =
    making-as refl c.in_err-collect_next.ensures.kept refl (making-watched (c.loop.invariant.brings first lines done may had) c.in_err-collect_next.ensures.watched)

pub loop-preserved : goal.loop-preserved
loop-preserved g c =
    let got = c.in_ok-collect_next.ensures.collected in
    let longer = ap length got.2 ∙ length-append c.loop.answers.items _ in
    let count = c.loop.invariant.count in
    record {
      brings = λ first lines done may had. making-collect (c.loop.invariant.brings first lines done may had) may got;
      count = omega (arith, longer, count);
    }

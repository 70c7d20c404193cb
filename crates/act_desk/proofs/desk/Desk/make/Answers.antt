use Rattle.std.proofs.Common.{◌∙◌, length, refl, ap, arith}
use Rattle.std.proofs.lemmas.List.{length-append, take_all}
use Rattle.act_desk.proofs.Making.{making-as, making-collect, making-watched}
use Rattle.act_desk.proofs.Watching.{if-err}
use Rattle.act_desk.proofs.Way.{making-some}
use Rattle.act_desk.proofs.desk.Desk.make.Goals as goal

pub collect_next-requires-clause-open : goal.collect_next-requires-clause-open
collect_next-requires-clause-open g c κs within = making-some c.rest.invariant.making c.requires.lines c.rest.invariant.asked (omega (arith, c.rest-test.true, c.len.ensures, c.rest.answers.ok))

pub rest-preserved : goal.rest-preserved
rest-preserved g c =
    let got = c.in_ok-collect_next.ensures.collected in
    let longer = ap length got.2 ∙ length-append c.rest.answers.items _ in
    record {
      making = making-collect c.rest.invariant.making c.requires.lines got;
      asked = c.rest.invariant.asked;
      within = omega (arith, c.rest-test.true, c.len.ensures, c.rest.answers.ok, longer);
    }

pub returns-in_err-collect_next-clause-some : goal.returns-in_err-collect_next-clause-some
returns-in_err-collect_next-clause-some g c =
    if-err c.from_residual-in_err-collect_next.result (
      length c.args.lines.now,
      making-as (take_all (length c.args.lines.now) c.args.lines.now (omega arith)) c.in_err-collect_next.ensures.kept refl (making-watched c.rest.invariant.making c.in_err-collect_next.ensures.watched),
    )

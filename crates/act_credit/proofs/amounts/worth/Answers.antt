use Rattle.std.proofs.Common.{Some, get_or, pos, sym, ap, ◌∙◌}
use Rattle.act_credit.specs.Amounts.{sum_read}
use Rattle.act_credit.proofs.CodesRead.{code_at, codes_alone, sum_done, sum_ends, sum_turn}
use Rattle.act_credit.proofs.amounts.worth.Goals as goal

pub returns-in-Err : goal.returns-in-Err
returns-in-Err g c =
    let entries = g.O.Observed.entries c.args.seen.now in
    let codes = c.args.codes.now in
    let i = c.codes.code-index in
    sym (ap (sum_read entries c.args.day (Some (pos 0))) (sym (codes_alone codes)) ∙ c.codes.invariant
    ∙ sum_ends Some entries c.args.day c.codes.sum codes i (get_or codes i 0) (code_at codes i c.codes-test.true) c.in-Err.stop (sym c.in-Err.is ∙ c.sum_with.ensures))

pub codes-preserved : goal.codes-preserved
codes-preserved g c =
    let codes = c.args.codes.now in
    let i = c.codes.code-index in
    c.codes.invariant ∙ sum_turn Some (g.O.Observed.entries c.args.seen.now) c.args.day c.codes.sum codes i (get_or codes i 0) (code_at codes i c.codes-test.true) c.in-Ok.next (sym c.in-Ok.is ∙ c.sum_with.ensures)

pub returns : goal.returns
returns g c =
    let entries = g.O.Observed.entries c.args.seen.now in
    let codes = c.args.codes.now in
    sym (ap (sum_read entries c.args.day (Some (pos 0))) (sym (codes_alone codes)) ∙ c.codes.invariant ∙ sum_done Some entries c.args.day c.codes.sum codes c.codes.code-index c.codes-test.false)

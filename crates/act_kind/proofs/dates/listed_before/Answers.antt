use Rattle.std.proofs.Common.{Err, ap, rules}
use Rattle.std.proofs.lemmas.Result.{err_from_is_err_and}
use Rattle.act_kind.proofs.WithoutEnd.{fault_without}
use Rattle.act_kind.proofs.dates.listed_before.Goals as goal

pub returns-in_err-dates : goal.returns-in_err-dates
returns-in_err-dates c =
    let p = err_from_is_err_and c.from_residual.result c.from_residual.ensures.1 in
    rw (p.1, p.2, ← c.requires.end) (fault_without _ c.args.schedule (search rules) c.requires.leads_on c.in_err-dates.ensures.answer (λ same. c.in_err-dates.ensures.too_many (ap Err same)))

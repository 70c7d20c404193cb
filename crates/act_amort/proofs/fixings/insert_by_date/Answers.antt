use Rattle.std.proofs.Common.{◌≡◌, ap, sym, ◌∙◌}
use Rattle.std.specs.List.{insert, prefix_len}
use Rattle.act_amort.proofs.PaymentFixings.{inserted_at}
use Rattle.act_profile.specs.LoanPlan.{is_earlier}
use Rattle.act_amort.proofs.fixings.insert_by_date.Goals as goal

pub returns-clause-inserted : goal.returns-clause-inserted
returns-clause-inserted c =
    let place : c.count_earlier-place.result ≡ prefix_len (λ d. is_earlier d c.args.date) c.args.dates.now.items = rw c.deref.ensures.value at c.count_earlier-place.ensures.count in
    c.in_ok-insert.ensures.items ∙ ap (λ n. insert c.args.dates.now.items n c.args.date) place ∙ sym (inserted_at is_earlier c.args.date c.args.dates.now.items)

use Rattle.std.proofs.Common.{sym, ap, ◌∙◌}
use Rattle.act_book.specs.Rates.{latest_rate}
use Rattle.act_book.proofs.SortedRates.{same_rates}
use Rattle.act_book.proofs.run.Run.latest.Goals as goal

pub returns : goal.returns
returns c =
    let code = c.args.code in
    let until = c.args.until in
    c.latest_in_order.ensures ∙ ap (λ sorted. latest_rate sorted code until) c.deref.ensures.value
    ∙ sym (same_rates code until c.self.inside.entries.items c.self.inside.sorted.items c.self.invariant.stable)
    ∙ ap (λ entries. latest_rate entries code until) c.self.view_is

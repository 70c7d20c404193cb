use Rattle.std.proofs.Common.{◌++◌, sym, ap, ◌∙◌}
use Rattle.act_model.specs.Observed.{observed_events}
use Rattle.act_book.proofs.Ordered.{same_events}
use Rattle.act_book.proofs.run.Run.push_events.Goals as goal

pub returns : goal.returns
returns c =
    let contract = c.args.contract in
    c.in_ok-extend_from_slice.ensures.items
    ∙ ap (λ more. c.args.events.now.items ++ more)
    (c.events_in_order.ensures ∙ ap (λ sorted. observed_events sorted contract) c.deref.ensures.value
    ∙ sym (same_events contract c.self.inside.entries.items c.self.inside.sorted.items c.self.invariant.stable)
    ∙ ap (λ entries. observed_events entries contract) c.self.view_is)

use Rattle.std.proofs.Common.{arith, sym, ◌∙◌}
use Rattle.act_kind.proofs.UpToEnd.{none_ends-all, none_ends-more, one_ends}
use Rattle.act_kind.proofs.order.count_to_end.Goals as goal

pub returns-then-ends-clause-taken : goal.returns-then-ends-clause-taken
returns-then-ends-clause-taken c = one_ends _ _ c.events.place c.index-events-place.result c.events.invariant (omega arith) c.index-events-place.is (sym c.ends.ensures ∙ c.if-ends.true)

pub events-preserved : goal.events-preserved
events-preserved c = none_ends-more _ _ c.events.place c.index-events-place.result c.events.invariant (omega arith) c.index-events-place.is (sym c.ends.ensures ∙ c.if-ends.false)

pub returns-clause-taken : goal.returns-clause-taken
returns-clause-taken c = none_ends-all _ _ c.events.place c.events.invariant (omega arith)

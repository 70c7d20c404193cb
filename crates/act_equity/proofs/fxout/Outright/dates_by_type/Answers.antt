use Rattle.std.proofs.Common.{inr}
use Rattle.act_equity.proofs.Outrights.{all_types, none_too_many}
use Rattle.act_equity.proofs.fxout.Outright.dates_by_type.Goals as goal

pub returns-clause-types : goal.returns-clause-types
returns-clause-types c = rw c.in_ok-vec.ensures.items (all_types c.args.self.now.common c.args.self.now.fxout _ _ _ c.purchases.ensures.answer c.terminations.ensures.answer c.exchanges.ensures.answer)

pub returns-clause-counted : goal.returns-clause-counted
returns-clause-counted c =
    rw c.in_ok-vec.ensures.items (inr (none_too_many _ _ _ c.purchases.ensures.no_memory c.terminations.ensures.no_memory c.exchanges.ensures.no_memory))

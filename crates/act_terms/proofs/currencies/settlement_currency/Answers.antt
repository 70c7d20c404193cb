use Rattle.act_terms.specs.Names.{settlement_of}
use Rattle.act_terms.proofs.WithoutWant.{optional_seen}
use Rattle.act_terms.proofs.currencies.settlement_currency.Goals as goal

pub returns-then-may_settle-clause-read : goal.returns-then-may_settle-clause-read
unfolding settlement_of
returns-then-may_settle-clause-read c =
    rw (c.optional.ensures, ← c.may_settle.ensures, c.if-may_settle.true) (optional_seen (λ t. t.now) _ _ _ c.currency_in.ensures.field)

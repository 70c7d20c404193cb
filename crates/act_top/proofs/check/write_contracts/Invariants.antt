use Rattle.std.proofs.Common.{drop}
use Rattle.act_top.specs.Check.{contracts_text}
use Rattle.act_engine.proofs.Texts.{Left}
use Rattle.act_top.proofs.check.write_contracts.Given as goal

-- the contracts from this one on are still to be written
abbrev pub invariant-loop-contract : goal.invariant-loop-contract
invariant-loop-contract g l = record {
  text : Left (contracts_text l.portfolio 0 l.portfolio.contracts.terms l.portfolio.names.contracts l.portfolio.unused)
      (contracts_text l.portfolio l.contract (drop l.contract l.portfolio.contracts.terms) (drop l.contract l.portfolio.names.contracts) (drop l.contract l.portfolio.unused))
      (g.K.Sink.page l.fn.out) (g.K.Sink.page l.out);
}

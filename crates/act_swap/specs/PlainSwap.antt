-- What clauses on a plain swap say.
use Rattle.act_model.specs.declared.terms.Common.{Common}
use Rattle.act_model.specs.declared.terms.Swppv.{Swppv}

-- the terms of a plain swap: those that every contract has, and its own
pub record PlainSwapTerms : Type 0 where
  pub common : Common
  pub swap : Swppv

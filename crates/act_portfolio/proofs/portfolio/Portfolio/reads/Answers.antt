use Rattle.std.proofs.Common.{ap, arith, map, subst, sym, ◌∙◌}
use Rattle.std.specs.List.{flat_map}
use Rattle.std.specs.List.Sorted.{IsStrictlyIncreasing}
use Rattle.act_model.specs.Reads.{Readings}
use Rattle.act_profile.specs.Contract.{observed_as}
use Rattle.act_profile.specs.Reads.{codes_of, cone_terms}
use Rattle.act_cones.specs.Cones.{reads_of}
use Rattle.act_cones.proofs.Ascending.{ascending_increases}
use Rattle.act_portfolio.proofs.PerContract.{reads_at, reads_within}
use Rattle.act_portfolio.proofs.portfolio.Portfolio.reads.Goals as goal

pub index-requires : goal.index-requires
index-requires c = omega (arith, reads_within _ _ _ _ _ c.self.invariant c.args.contract (rw (← c.self.view_is) at c.requires.contract))

pub returns-clause-reads : goal.returns-clause-reads
returns-clause-reads c =
    reads_at _ _ _ _ _ c.self.invariant c.args.contract (rw (← c.self.view_is) at c.requires.contract) c.index.result.now c.index.ensures
    ∙ ap (λ p. reads_of p.contracts c.args.contract) c.self.view_is

pub returns-clause-codes_ascend : goal.returns-clause-codes_ascend
returns-clause-codes_ascend c =
    subst (λ (reads : Readings). IsStrictlyIncreasing reads.codes) (sym (returns-clause-reads c)) (ascending_increases (flat_map codes_of (cone_terms c.args.self.now.contracts c.args.contract)))

pub returns-clause-contracts_ascend : goal.returns-clause-contracts_ascend
returns-clause-contracts_ascend c =
    subst (λ (reads : Readings). IsStrictlyIncreasing reads.contracts) (sym (returns-clause-reads c)) (ascending_increases (map (λ terms. observed_as terms.common) (cone_terms c.args.self.now.contracts c.args.contract)))

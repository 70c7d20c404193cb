-- What clauses on the signs of a swap's legs say.
use Rattle.std.specs.Prelude.{Bool, true, false, ℤ}
use Rattle.act_model.specs.declared.choice.ContractRole.{ContractRole}
use Rattle.act_profile.specs.Formula.{opposite, signed}

-- a payoff of the first leg with the role's sign, one of the second leg with the opposite one
abbrev pub by_leg : ContractRole → Bool → ℤ → ℤ
by_leg role true payoff = signed role payoff
by_leg role false payoff = opposite role payoff

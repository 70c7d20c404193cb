-- What distinguishes the kinds of loans.
use Rattle.std.specs.Prelude.{Bool, true, false}
use Rattle.act_model.specs.declared.choice.ContractType.{ContractType}
use Rattle.act_model.specs.declared.choice.ContractType.TheVariants as type

-- interest has dates of its own; a NAM and an ANN pay it with each redemption besides
abbrev pub pays_interest_alone : ContractType → Bool
pays_interest_alone type.NAM = false
pays_interest_alone type.ANN = false
pays_interest_alone other = true

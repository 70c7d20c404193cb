-- Which kinds of contracts pay after a credit event of a contract that they cover.
use Rattle.std.specs.Prelude.{Bool, true, false}
use Rattle.act_model.specs.declared.choice.ContractType.{ContractType}
use Rattle.act_model.specs.declared.choice.ContractType.TheVariants as type

-- it is a CEG or a CEC
abbrev pub is_guarantee : ContractType → Bool
is_guarantee type.CEG = true
is_guarantee type.CEC = true
is_guarantee other = false

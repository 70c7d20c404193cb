-- Which kinds of contracts are exercised and then settled.
use Rattle.std.specs.Prelude.{Bool, true, false}
use Rattle.act_model.specs.declared.choice.ContractType.{ContractType}
use Rattle.act_model.specs.declared.choice.ContractType.TheVariants as type

-- it is an OPTNS or a FUTUR
abbrev pub is_exercised : ContractType → Bool
is_exercised type.OPTNS = true
is_exercised type.FUTUR = true
is_exercised other = false

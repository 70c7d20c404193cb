-- Which kinds of loans redeem their principal before maturity.
use Rattle.std.specs.Prelude.{Bool, true, false}
use Rattle.act_model.specs.declared.choice.ContractType.{ContractType}
use Rattle.act_model.specs.declared.choice.ContractType.TheVariants as type

-- it is a LAM, a NAM or an ANN
abbrev pub amortizes : ContractType → Bool
amortizes type.LAM = true
amortizes type.NAM = true
amortizes type.ANN = true
amortizes other = false
